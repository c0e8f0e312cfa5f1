pub mod Conventions
pub mod Promised
pub mod Spelled
