pub mod EndLaws
pub mod Laws
