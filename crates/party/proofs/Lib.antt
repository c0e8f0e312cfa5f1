pub mod Cleared
pub mod Refusals
pub mod Kept
