pub mod Words
pub mod Strips
pub mod Refusals
pub mod Left
pub mod BothSides
