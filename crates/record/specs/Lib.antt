pub mod Operation
pub mod Record
pub mod Valid
