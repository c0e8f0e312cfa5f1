pub mod Fields
pub mod HeldTable
pub mod Next
pub mod Reading
