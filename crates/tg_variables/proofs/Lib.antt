mod Declaring
mod Translated
