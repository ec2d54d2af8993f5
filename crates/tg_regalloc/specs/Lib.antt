pub mod Conditions
pub mod Rewriting
pub mod Painting
pub mod Rounds
pub mod Allocations
pub mod glue
pub mod laws
pub mod mirror
