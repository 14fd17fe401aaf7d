-- The definitions that the contracts of `history` cite: Actions (effects, and what a start does at a moment), Values (the value of a fluent
-- at a moment), Held (the starts in hand at a moment), Code (what passes between functions).
pub mod Actions
pub mod Values
pub mod Held
pub mod Code
