pub mod Marks
pub mod Refused
pub mod Rising
pub mod Texts
pub mod Unique
pub mod Whole
