pub mod Noted
pub mod Line
