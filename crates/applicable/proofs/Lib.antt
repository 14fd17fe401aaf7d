-- Laws that belong to no one function: Facing (which starts count for a new one: those in hand), NewStart (the rows of a new start, one after
-- the other).
pub mod Facing
pub mod NewStart
