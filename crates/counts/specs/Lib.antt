pub mod Loss
pub mod Gap
pub mod Lost
