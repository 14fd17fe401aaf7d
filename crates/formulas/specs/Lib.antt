-- The definitions that the contracts of `formulas` cite: Values (the value of a formula at a moment), Code (what passes between functions).
pub mod Values
pub mod Code
