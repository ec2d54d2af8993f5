pub mod Laws
pub mod Emission
