pub mod Marks
pub mod NotExplained
