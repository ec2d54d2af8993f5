mod Orders
mod Nest
mod Covered
mod Seen
mod Growing
mod Asked
-- what names mean to typing and among the facts
mod Agreeing
mod Behind
mod Onward
mod Bound
mod Called
mod Outermost
mod Spelling
mod Chains
mod Grouped
mod Shaped
mod Needed
-- what is told where typing goes on, and where it ends
mod Unbroken
mod Walking
mod Around
mod Fine
mod Found
mod Told
