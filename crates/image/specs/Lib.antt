pub mod Calls
pub mod Inside
