mod Making
pub mod Apart
