pub mod Operations
pub mod Places
pub mod Stages
