pub mod Laws
pub mod GivingBack
