pub mod Setting
pub mod Unique
