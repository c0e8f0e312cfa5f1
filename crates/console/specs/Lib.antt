pub mod Fields
pub mod Numbers
pub mod Image
pub mod Records
