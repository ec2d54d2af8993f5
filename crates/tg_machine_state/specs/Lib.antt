pub mod State
pub mod Services
