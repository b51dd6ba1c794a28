pub mod Counted
pub mod Shown
pub mod Told
pub mod Whole
