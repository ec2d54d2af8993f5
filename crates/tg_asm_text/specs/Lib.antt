pub mod Lines
pub mod Operands
pub mod Items
pub mod Assembly
pub mod Placement
pub mod Writing
pub mod Texts
pub mod laws
