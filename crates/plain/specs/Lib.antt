pub mod Plain
pub mod Play
pub mod Accounts
