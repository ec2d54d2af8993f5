pub mod Bits
pub mod Keeping
pub mod Chains
pub mod Linking
