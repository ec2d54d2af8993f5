pub mod Explained
pub mod Growth
