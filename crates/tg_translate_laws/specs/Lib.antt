pub mod Standing
pub mod Strings
pub mod Escaped
pub mod Accesses
pub mod Depths
pub mod Programs
pub mod laws
