pub mod Scanning
pub mod Streaming
pub mod Unique
