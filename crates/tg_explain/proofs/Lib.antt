mod Likes
pub mod Asked
pub mod Openings
pub mod AllExpected
pub mod Fronts
pub mod Escapes
pub mod Runs
mod Examples
