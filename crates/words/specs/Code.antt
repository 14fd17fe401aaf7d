-- What passes between functions, and no public contract reaches: Place (where a word is put in).
pub mod Place
