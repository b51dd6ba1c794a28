pub mod Turning
pub mod Unique
pub mod Ways
