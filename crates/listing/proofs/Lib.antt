pub mod Calls
pub mod Ends
pub mod Handed
pub mod Packets
pub mod Parts
pub mod Sofar
pub mod Unique
pub mod Whole
