pub mod Table
pub mod Told
pub mod Statements
pub mod Form
pub mod Look
pub mod Calls
