pub mod Anywhere
