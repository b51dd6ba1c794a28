pub mod Accepted
pub mod Back
pub mod Numbered
pub mod Shown
pub mod Told
pub mod Unique
pub mod Wrote
