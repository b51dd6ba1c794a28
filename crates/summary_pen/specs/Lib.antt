pub mod Choice
pub mod Form
pub mod Lines
pub mod Page
pub mod Rows
pub mod Words
