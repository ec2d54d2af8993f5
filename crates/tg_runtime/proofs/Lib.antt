mod Examples
pub mod Functions
pub mod Constants
