pub mod Splitting
pub mod Counting
pub mod Pairing
pub mod Unique
