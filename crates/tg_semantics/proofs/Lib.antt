pub mod Trees
mod WorkedExamples
mod Subtleties
mod CostExamples
pub mod Related
pub mod Twin
pub mod GoingOn
pub mod MoreFuel
pub mod Unfolding
pub mod OwnStep
mod PassingClauses
pub mod AsSource
