pub mod Recording
pub mod Reader
pub mod Eight
pub mod Finding
