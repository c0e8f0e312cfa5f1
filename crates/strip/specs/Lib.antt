pub mod Shape
pub mod Lay
pub mod Measure
