-- words and fields
pub mod Arithmetic
pub mod Fields
pub mod Words
-- what choices do, one after another
pub mod Does
pub mod Behaving
pub mod Results
-- expressions, tile by tile
pub mod Tiled
pub mod Operated
pub mod Shifting
pub mod ByWord
pub mod Expressions
pub mod Loading
pub mod Products
-- comparisons
pub mod Branching
pub mod Compared
-- temporaries that are drawn, and marks
pub mod Growing
pub mod Marked
-- what memory has, and services
pub mod Reading
pub mod Storing
pub mod Asking
pub mod Seeing
-- registers that are kept
pub mod Steps
pub mod Moves
-- frames
pub mod Frames
pub mod Outlines
pub mod Leaving
-- the elements of a body
pub mod Between
pub mod Statements
pub mod Listed
pub mod LowWords
pub mod Passing
pub mod Calls
pub mod Calling
pub mod Elements
-- bodies and programs
pub mod Parameters
pub mod Bodies
pub mod Linked
pub mod Program
-- the theorem, and how instructions are counted
pub mod Naming
pub mod Whole
pub mod Counting
