pub mod Images
pub mod Sources
pub mod Assemblies
pub mod Ends
pub mod laws
