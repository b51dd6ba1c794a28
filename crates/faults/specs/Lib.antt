pub mod Why
pub mod Look
