-- What it is to read a procedure against a plan: Forms (the task set at a node), Reading (readings as lists of words), Count (how many
-- triples have a reading), Code (what passes between functions).
pub mod Forms
pub mod Reading
pub mod Count
pub mod Code
