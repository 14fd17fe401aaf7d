-- What passes between functions, and no public contract reaches: Decoded (the words of bytes in a buffer), Written (a text in a buffer).
pub mod Decoded
pub mod Written
