pub mod Pulling
pub mod Unique
