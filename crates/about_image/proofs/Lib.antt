pub mod Rows
pub mod Packets
pub mod Numbers
pub mod Steps
pub mod Filling
pub mod One
pub mod AnyOrder
pub mod Witness
