mod EscapingExamples
pub mod SetSteps
pub mod SearchSteps
pub mod Joins
