pub mod Brings
pub mod Brought
pub mod Told
pub mod Refusal
pub mod Back
pub mod Calls
pub mod Unique
