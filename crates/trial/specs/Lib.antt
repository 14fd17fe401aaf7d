-- The definitions that the contracts of `trial` cite: Stepped (the trial that the struct stands for, and what a method hands back), Code
-- (what passes between functions).
pub mod Stepped
pub mod Code
