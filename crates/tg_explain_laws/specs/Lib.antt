pub mod Nested
pub mod Asking
pub mod laws
