pub mod Pieces
pub mod Reader
pub mod Sections
