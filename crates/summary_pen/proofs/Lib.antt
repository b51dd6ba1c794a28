pub mod InForm
pub mod Saying
pub mod Shares
pub mod Shown
pub mod Told
pub mod Unique
