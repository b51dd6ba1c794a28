pub mod Numbers
pub mod Parts
pub mod Pick
pub mod Same
pub mod Unique
