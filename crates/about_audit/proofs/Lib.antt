pub mod Audited
pub mod Example
