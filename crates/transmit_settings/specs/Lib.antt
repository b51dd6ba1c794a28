pub mod State
pub mod Setting
