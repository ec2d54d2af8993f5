pub mod Simulating
pub mod Laws
