pub mod Streamed
pub mod Worked
