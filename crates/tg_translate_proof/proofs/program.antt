-- Declarations, functions and whole programs, up to the theorem.
pub mod Accepted
pub mod Checked
pub mod Composing
pub mod Consequences
pub mod Declarations
pub mod FirstActivation
pub mod FunctionBody
pub mod FunctionEntry
pub mod FunctionGroup
pub mod FunctionGroups
pub mod FunctionReturn
pub mod Program
pub mod ReturnedArms
pub mod Theorem
pub mod VariableDeclaration
