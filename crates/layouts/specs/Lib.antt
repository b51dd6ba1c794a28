pub mod Line
pub mod Reason
pub mod Layouts
pub mod Found
pub mod Steps
pub mod Back
