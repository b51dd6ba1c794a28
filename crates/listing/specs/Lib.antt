pub mod Promised
pub mod Listing
pub mod Next
pub mod Whole
