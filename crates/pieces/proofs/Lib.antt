pub mod Below
pub mod Checked
pub mod Filled
pub mod PartyBytes
