pub mod Entries
pub mod Playing
pub mod Explains
pub mod Totals
pub mod Before
