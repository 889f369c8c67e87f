pub mod Instant
pub mod Merged
pub mod OfCode
pub mod OfSlice
pub mod Examples
pub mod SliceExamples
