pub mod Counts
pub mod Register
pub mod Shows
pub mod Unseen
pub mod Worth
pub mod Widest
