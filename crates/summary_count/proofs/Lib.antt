pub mod Counting
pub mod Handing
pub mod Noting
pub mod Unique
