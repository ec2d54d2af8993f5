-- laws that crates above use: how names are numbered, that a text has one list of tokens or one fault, and where tokens end
pub mod Interning
pub mod Onces
pub mod Excludes
pub mod TokenEnds
pub mod Readings
-- this crate's own
mod Basics
mod Closings
mod Escapings
mod Quotings
mod EscapeSteps
mod StringSteps
mod Numerals
mod SignSteps
mod Scans
mod StringFaults
mod Spelled
mod AsciiNames
