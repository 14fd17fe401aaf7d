-- The definitions that the contracts of `facts` cite: Facts (the list of facts), Code (what passes between functions).
pub mod Facts
pub mod Code
