-- What the main lemma says of a part of a program, and what its cases share.
pub mod Activations
pub mod Asked
pub mod Cases
pub mod Covered
pub mod HeldLeft
pub mod HeldMeanwhile
pub mod HeldOperands
pub mod LessWork
pub mod Needs
pub mod Parts
