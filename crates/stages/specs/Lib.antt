pub mod Stages
pub mod Follow
