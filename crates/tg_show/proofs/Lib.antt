mod Blanks
mod Examples
mod StageExamples
mod Nodes
mod Steps
mod Naming
