-- The definitions that the contracts of `answers` cite: Rows (refusals, row after row), Packed (the 64-bit number of an answer), Code (what
-- passes between functions).
pub mod Rows
pub mod Packed
pub mod Code
