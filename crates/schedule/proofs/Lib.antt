pub mod Chunks
pub mod Running
pub mod Files
pub mod Refusing
pub mod Kept
