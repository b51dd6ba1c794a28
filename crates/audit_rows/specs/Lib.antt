pub mod Goes
pub mod Frame
pub mod Right
