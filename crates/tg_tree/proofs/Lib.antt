mod Examples
mod SizeExamples
mod LinkExamples
pub mod Relating
pub mod Going
pub mod Filled
pub mod Entering
pub mod TreeRuns
pub mod FlatRuns
pub mod FlatValues
pub mod ListLaws
pub mod Flatness
pub mod Linking
pub mod Linked
pub mod Alikes
pub mod Opposites
pub mod NamesPassing
pub mod OperatorWords
