pub mod Replaced
pub mod Laws
