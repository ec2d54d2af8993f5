pub mod Programs
pub mod Images
