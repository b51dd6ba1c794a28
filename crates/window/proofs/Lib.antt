pub mod Hands
pub mod Moves
pub mod Unique
pub mod Looping
