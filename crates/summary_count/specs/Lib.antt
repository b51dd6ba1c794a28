pub mod Count
pub mod Counters
