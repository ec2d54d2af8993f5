pub mod Weighing
pub mod Leading
pub mod Giving
pub mod Paying
pub mod Crossing
pub mod Light
pub mod Following
pub mod Tabled
