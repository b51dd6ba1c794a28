pub mod Loop
pub mod Told
pub mod Whole
