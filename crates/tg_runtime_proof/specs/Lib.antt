pub mod Memories
pub mod Settings
pub mod laws
