-- What passes between functions, and no public contract reaches: Given (what the tests of a new start ask and give).
pub mod Given
