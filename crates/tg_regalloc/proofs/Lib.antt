mod Absent
mod Alike
pub mod Blocks
mod BlocksKept
mod Causes
mod Counts
mod Examples
mod Framed
pub mod Growing
mod Making
pub mod Naming
pub mod OneRound
pub mod Painted
mod PaintedNames
mod RegisterNames
mod Registers
pub mod Renamed
mod Replacing
pub mod Rewritten
pub mod RewrittenBelow
mod RewrittenNames
mod RoundExamples
mod RoundsOf
mod Shortness
pub mod Sizes
mod Slots
pub mod SlotsBehind
pub mod Slotting
mod TestsKept
mod UnderWay
mod Unspilled
