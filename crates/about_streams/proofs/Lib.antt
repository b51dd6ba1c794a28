pub mod Carried
pub mod Kiss
pub mod Bits
pub mod Worked
