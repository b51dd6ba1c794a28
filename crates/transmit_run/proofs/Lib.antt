pub mod Turning
pub mod Ending
pub mod Fillings
pub mod Whole
