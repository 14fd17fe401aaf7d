-- Laws that belong to no one function: Before (facts of the words before, one word more or less), Children (what a word names, by the tests
-- of the code; children are lower), Procedure (a node's children, by its word and members), Follow (what the table of predecessors says),
-- Listing (what words list, and the set of it that the scan carries), Naming (the sets of nodes that are named),
-- Refusal (the refusal of a word by its kind, and what the rules bound), WordPositions (where the words of a kind stand), ByPlace (what a word says
-- and which follow it, by its place), Fits (refusals fit an answer's fields), Parts, Known and TaskSets (what the rules leave of each
-- part), WellFormed (a job that is not refused is well formed).
pub mod Before
pub mod Children
pub mod Procedure
pub mod Follow
pub mod Listing
pub mod Naming
pub mod Refusal
pub mod WordPositions
pub mod ByPlace
pub mod Fits
pub mod Parts
pub mod Known
pub mod TaskSets
pub mod WellFormed
