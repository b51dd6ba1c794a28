pub mod Field
pub mod High
pub mod Numbers
pub mod Rows
pub mod Signed
