pub mod Activations
pub mod Laws
