pub mod Beginning
pub mod Enough
pub mod Events
pub mod Few
pub mod Offering
pub mod Receiving
pub mod Run
pub mod Unique
