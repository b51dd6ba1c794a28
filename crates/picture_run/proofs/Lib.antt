pub mod Gathering
pub mod Turning
pub mod Drawing
pub mod Whole
