pub mod Listed
pub mod Runs
pub mod Writing
