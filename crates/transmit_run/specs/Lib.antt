pub mod Turn
pub mod Filled
pub mod Ended
pub mod Whole
