pub mod Refusals
pub mod Told
pub mod Writer
pub mod Called
pub mod Back
