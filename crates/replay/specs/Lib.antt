pub mod Alone
pub mod Replay
pub mod Said
pub mod Code
