pub mod Alike
pub mod Mes
pub mod Rules
pub mod Meanings
pub mod Promised
pub mod Edges
pub mod Unique
