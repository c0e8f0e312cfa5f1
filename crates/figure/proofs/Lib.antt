pub mod Elements
pub mod Lines
