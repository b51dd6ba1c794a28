pub mod Refusing
pub mod Laid
pub mod Escaping
pub mod Blocks
pub mod Answers
pub mod Back
pub mod Told
pub mod Unique
