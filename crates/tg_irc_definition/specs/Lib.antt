pub mod Graphs
pub mod Policies
pub mod States
pub mod Steps
pub mod Selection
pub mod Rounds
pub mod laws
