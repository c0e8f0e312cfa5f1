pub mod Laying
pub mod Measuring
pub mod Values
pub mod Shapes
pub mod Kept
pub mod MeasureShapes
