pub mod Window
pub mod Turns
pub mod Status
