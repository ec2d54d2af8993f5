pub mod Places
pub mod Outlines
pub mod Relating
