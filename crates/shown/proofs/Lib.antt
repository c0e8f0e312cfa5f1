pub mod Splitting
pub mod Numbers
pub mod Cells
pub mod Lines
pub mod Rows
pub mod Columns
pub mod Finishing
pub mod EveryListing
