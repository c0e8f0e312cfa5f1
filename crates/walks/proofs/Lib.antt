pub mod Again
pub mod Steps
pub mod Loans
pub mod Prelude
