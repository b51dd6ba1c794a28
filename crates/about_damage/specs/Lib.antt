pub mod Damage
pub mod Worth
pub mod Unseen
pub mod Widest
