pub mod Standing
pub mod Situation
