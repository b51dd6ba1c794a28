pub mod Least
pub mod Text
