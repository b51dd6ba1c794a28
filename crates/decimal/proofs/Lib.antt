pub mod Back
pub mod Decimal
pub mod Laid
pub mod Reading
pub mod Several
pub mod Short
pub mod Unique
