pub mod Remembered
pub mod Claims
