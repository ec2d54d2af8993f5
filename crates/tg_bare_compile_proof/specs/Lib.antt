pub mod Images
pub mod Assemblies
pub mod Ends
pub mod Builds
pub mod laws
