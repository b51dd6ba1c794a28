pub mod Losing
pub mod Unique
pub mod Laying
