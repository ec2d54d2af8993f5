pub mod Breaking
pub mod Views
