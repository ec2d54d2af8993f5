-- a law that crates above use: a list of tokens has one fault of syntax at most
pub mod OneFault
-- this crate's own
mod Chains
mod Params
mod Leading
mod Descents
mod EndedLists
mod Onwards
mod GroupSteps
mod NestingSteps
mod ParseSteps
mod Passings
mod WithinLists
