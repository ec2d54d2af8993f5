pub mod NameTexts
pub mod Apart
pub mod CodeLines
pub mod PlainLines
pub mod InstructionLines
pub mod FunctionLines
pub mod ProgramLines
pub mod LabelsDiffer
pub mod StaticsLines
pub mod WrittenTexts
pub mod HasLabels
pub mod Soundness
mod Examples
