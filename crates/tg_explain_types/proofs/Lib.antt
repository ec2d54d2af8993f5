mod Lists
mod Distances
pub mod Alike
mod TextsTold
mod Examples
mod Agreement
