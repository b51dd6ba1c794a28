pub mod Noting
pub mod Naming
pub mod Unique
