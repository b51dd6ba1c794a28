pub mod Adding
pub mod Elements
pub mod Leaving
pub mod Lining
pub mod Reporting
pub mod Showing
pub mod Unique
