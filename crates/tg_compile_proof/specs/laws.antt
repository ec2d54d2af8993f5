pub mod TextLaws
pub mod Lowering
pub mod Laws
