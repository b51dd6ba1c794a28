pub mod Receive
pub mod Run
