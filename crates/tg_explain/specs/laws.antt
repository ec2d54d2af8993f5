pub mod AllExpected
pub mod WholeEscapes
