pub mod Framing
pub mod Reporting
pub mod Unique
pub mod Own
