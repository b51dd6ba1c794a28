pub mod Places
pub mod Runs
pub mod Sent
pub mod Trained
pub mod Example
pub mod Received
