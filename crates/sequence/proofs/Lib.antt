pub mod Told
pub mod Refusal
pub mod Unique
pub mod EachWhen
pub mod Following
