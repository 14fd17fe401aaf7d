-- The definitions of `sets`: Set (the rule of a task set), Code (what passes between functions).
pub mod Set
pub mod Code
