pub mod Inside
pub mod Layout
pub mod Moves
pub mod Pauses
