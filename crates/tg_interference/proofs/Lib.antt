mod Operands
mod Colours
mod Joining
mod Marking
mod Alive
mod Interfering
mod Occurring
mod Examples
