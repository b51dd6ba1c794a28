pub mod Answers
pub mod Limits
pub mod Packet
pub mod Write
pub mod Back
pub mod Asked
