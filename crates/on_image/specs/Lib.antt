pub mod Intact
pub mod Run
pub mod Packed
