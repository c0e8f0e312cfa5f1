pub mod Found
pub mod Laid
pub mod Promised
pub mod Kept
pub mod Again
pub mod Back
