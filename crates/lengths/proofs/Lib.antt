pub mod Left
pub mod Reached
pub mod Unique
