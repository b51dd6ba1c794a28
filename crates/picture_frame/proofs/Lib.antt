pub mod Packets
pub mod Others
pub mod Unique
