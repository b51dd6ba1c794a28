pub mod Placings
pub mod AnyOrder
pub mod Witness
