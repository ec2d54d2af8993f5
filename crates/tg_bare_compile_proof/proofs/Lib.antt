pub mod Meaning
pub mod Ending
pub mod Texts
pub mod Sizes
pub mod Composing
pub mod Building
