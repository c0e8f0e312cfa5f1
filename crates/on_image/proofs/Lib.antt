pub mod Beginning
pub mod Fresh
pub mod Laid
pub mod Kept
pub mod EveryRun
pub mod EveryCCall
