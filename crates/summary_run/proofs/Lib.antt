pub mod Counting
pub mod Judging
pub mod Parts
pub mod Turning
pub mod Whole
