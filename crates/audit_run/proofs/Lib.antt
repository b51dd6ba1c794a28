pub mod Whole
pub mod Writing
