pub mod state
pub mod invariant
pub mod expressions
pub mod program
