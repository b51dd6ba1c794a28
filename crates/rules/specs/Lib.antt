pub mod Limits
pub mod Channel
pub mod Packets
pub mod Bounds
pub mod Cutting
pub mod BothSides
pub mod Step
