-- What passes between functions, and no public contract reaches: Set (the rule with what each member reads, and sets that are formed), Rows
-- (what rows and placements ask and promise), Masks (of the conditions), Tables (of begins and ends), Bounds (of begins, by ends).
pub mod Set
pub mod Rows
pub mod Masks
pub mod Tables
pub mod Bounds
