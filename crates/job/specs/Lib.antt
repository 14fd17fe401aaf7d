-- The definitions that the contracts of `job` cite: Children (the nodes that a word names), Rules (the rule of each kind of word), Follow
-- (which words may follow which), Before (facts of the words before a word), Refusal (the refusal of a job), Parts (what a well-formed job
-- says, part by part), Procedure (its nodes, as the reading layer gets them), Code (what passes between functions).
pub mod Children
pub mod Rules
pub mod Follow
pub mod Before
pub mod Refusal
pub mod Parts
pub mod Procedure
pub mod Code
