pub mod Run
pub mod Entries
pub mod Finished
pub mod Told
pub mod Explained
pub mod Machine
pub mod Accounts
