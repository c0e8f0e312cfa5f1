pub mod Pick
pub mod Every
pub mod Total
