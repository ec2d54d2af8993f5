pub mod TokenStrings
pub mod laws
