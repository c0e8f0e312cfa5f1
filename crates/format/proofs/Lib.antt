pub mod Parts
pub mod Words
pub mod Records
pub mod Spelled
pub mod Sizes
pub mod Gated
pub mod Laying
pub mod Rights
