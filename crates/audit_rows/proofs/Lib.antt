pub mod Looks
pub mod Reading
pub mod Frames
pub mod Alike
pub mod Right
pub mod Unique
pub mod Coming
