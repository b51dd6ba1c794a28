pub mod Heeding
pub mod Turning
pub mod Loop
pub mod Unique
