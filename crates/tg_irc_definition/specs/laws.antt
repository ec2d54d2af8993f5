pub mod Laws
pub mod Classes
pub mod Waiting
pub mod Degrees
