pub mod Words
pub mod Telling
pub mod Bounds
pub mod Bound
