pub mod Names
pub mod Rows
pub mod Lines
pub mod Text
