pub mod File
pub mod List
pub mod Inside
