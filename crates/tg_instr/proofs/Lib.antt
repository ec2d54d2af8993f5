-- tests of both and of all, for the passes above
pub mod Tests
-- operands that are the same, for the passes above too
pub mod Same
-- instructions over $zero, $sp and colours
pub mod Colours
-- effects of shapes, by their uses and definitions
pub mod Effects
-- runs of instructions: their own steps, and what their steps keep
pub mod CodeRuns
mod MeaningExamples
