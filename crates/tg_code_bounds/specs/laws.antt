pub mod Laws
pub mod Conditions
