pub mod Bytes
pub mod Packing
