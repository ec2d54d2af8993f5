mod Reading
mod Spelling
mod Fitting
mod Literals
mod Examples
mod WordTokens
mod WordTrees
