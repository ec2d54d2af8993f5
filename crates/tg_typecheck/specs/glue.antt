pub mod Kinds
pub mod Bindings
pub mod Shapes
pub mod States
pub mod Selections
pub mod Trees
pub mod Faults
pub mod Declaring
