-- What passes between functions, and no public contract reaches: Members (a word as a set of numbers).
pub mod Members
