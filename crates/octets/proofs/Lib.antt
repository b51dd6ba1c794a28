pub mod Choices
pub mod Comparing
pub mod Fixed
pub mod Laws
pub mod Placing
pub mod Runs
pub mod Tests
pub mod Unique
