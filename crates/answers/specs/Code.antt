-- What passes between functions, and no public contract reaches: Packed (the range of an answer), Ruled (results of rows).
pub mod Packed
pub mod Ruled
