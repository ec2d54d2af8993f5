pub mod Readings
pub mod Facts
pub mod Known
