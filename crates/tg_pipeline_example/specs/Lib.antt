pub mod Program
pub mod Stages
pub mod laws
