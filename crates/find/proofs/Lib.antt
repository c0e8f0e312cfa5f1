pub mod Finding
pub mod FindShapes
pub mod Kept
