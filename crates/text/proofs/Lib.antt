-- Laws that belong to no one function: Bytes (the words of bytes), Plans (starts and facts of a plan), Sizes (good sizes), Texts (one text after
-- another), Numbers (decimal text and hexadecimal lines).
pub mod Bytes
pub mod Plans
pub mod Sizes
pub mod Texts
pub mod Numbers
