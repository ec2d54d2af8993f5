pub mod Cutting
pub mod Laying
