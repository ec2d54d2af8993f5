pub mod Declarations
pub mod Searches
