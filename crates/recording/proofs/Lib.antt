pub mod Pieces
pub mod Scanning
pub mod Sections
pub mod Unique
