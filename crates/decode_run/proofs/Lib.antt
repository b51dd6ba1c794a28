pub mod Turning
pub mod Whole
