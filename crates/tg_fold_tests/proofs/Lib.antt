mod Programs
mod Routines
