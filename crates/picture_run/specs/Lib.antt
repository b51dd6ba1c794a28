pub mod Gathered
pub mod Files
pub mod Whole
