pub mod Facts
pub mod Walks
