pub mod Entry
pub mod OnRecord
