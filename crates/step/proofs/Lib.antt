pub mod Cleared
pub mod Accesses
pub mod EachStage
pub mod Went
pub mod Stepped
pub mod Kept
