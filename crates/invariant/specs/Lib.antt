pub mod Invariant
pub mod Remembered
