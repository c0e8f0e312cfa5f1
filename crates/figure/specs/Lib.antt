pub mod Figure
pub mod Reading
