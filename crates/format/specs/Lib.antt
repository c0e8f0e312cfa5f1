pub mod Format
pub mod Spelling
pub mod Fresh
pub mod Inside
