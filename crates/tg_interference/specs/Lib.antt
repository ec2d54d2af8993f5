pub mod Nodes
pub mod Moves
pub mod Pairs
pub mod Facts
pub mod glue
pub mod laws
