pub mod Came
pub mod Forming
pub mod Unique
