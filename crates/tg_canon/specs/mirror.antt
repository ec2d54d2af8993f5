pub mod Drawing
pub mod Canon
