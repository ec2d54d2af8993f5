pub mod Checkable
pub mod Framed
