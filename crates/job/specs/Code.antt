-- What passes between functions, and no public contract reaches: Index (where the words of a kind stand), Parts (how many formulas there
-- are), WellFormed (what a job has that is not refused), State (what the scan's state is of the words before), Entries (what the words of
-- a run list), Names (which nodes are named as children).
pub mod Index
pub mod Parts
pub mod WellFormed
pub mod State
pub mod Entries
pub mod Names
