-- What passes between functions, and no public contract reaches: Written (what the writers of facts ask, and leave in a buffer).
pub mod Written
