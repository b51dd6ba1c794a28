pub mod Answers
pub mod Stream
pub mod Sender
pub mod Frames
pub mod Send
pub mod Calls
pub mod Asked
