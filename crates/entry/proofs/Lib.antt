pub mod Asks
pub mod OnRecord
