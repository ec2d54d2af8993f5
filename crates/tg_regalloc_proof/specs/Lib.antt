pub mod Blocks
pub mod Named
pub mod Places
pub mod Keeping
pub mod laws
