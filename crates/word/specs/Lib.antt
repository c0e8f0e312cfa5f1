pub mod Word
pub mod Swap
