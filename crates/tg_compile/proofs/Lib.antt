pub mod Chain
pub mod Linking
pub mod Naming
mod Examples
pub mod Preparing
mod SlotLabels
mod Small
pub mod WellFormed
