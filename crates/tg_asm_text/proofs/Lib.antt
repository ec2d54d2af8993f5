mod LineExamples
mod AssemblyExamples
mod TextExamples
pub mod WordCuts
pub mod OperandTexts
pub mod ReadBack
pub mod FirstPass
pub mod LabelTables
pub mod SecondPass
pub mod PlacedTexts
pub mod TextLines
