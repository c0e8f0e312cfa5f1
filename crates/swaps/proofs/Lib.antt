pub mod Stale
pub mod Facts
pub mod Claims
