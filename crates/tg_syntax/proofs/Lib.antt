-- laws that crates above use
pub mod ListLaws
pub mod Longest
pub mod Numerals
pub mod GroupLaws
pub mod FunctionLaws
-- this crate's own
mod SizeLemmas
mod InnerLemmas
mod BeginningsExamples
mod FunctionExamples
mod GrammarExamples
mod TokenExamples
