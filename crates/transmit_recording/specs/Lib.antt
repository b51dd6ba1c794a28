pub mod Recording
pub mod Laid
