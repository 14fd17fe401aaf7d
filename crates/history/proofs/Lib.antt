-- Laws that belong to no one function: Stores (what stores leave), Held (the starts in hand from one moment to the next), HeldList (which of
-- a plan's starts join a list of these, and which stay in it), Moments (the state at the next moment, by two passes over the starts in hand),
-- Carried (the list of starts in hand, and the state with it), Steps (a step of a walk), Values (values are at most 2), Before (a start changes no value up to its own
-- moment), LawsAt (the laws of an action by their place).
pub mod Stores
pub mod Held
pub mod HeldList
pub mod Moments
pub mod Carried
pub mod Steps
pub mod Values
pub mod Before
pub mod LawsAt
