mod Found
mod Chosen
