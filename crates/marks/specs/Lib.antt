pub mod Seen
pub mod Replay
pub mod Fight
pub mod Withdrawal
pub mod Marks
pub mod Moved
