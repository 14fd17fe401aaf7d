-- Laws that belong to no one function: Choices (what tests put together say), Scan (what a list of words has, from a position on), AnyBelow
-- and AllBelow (whether some number below n, or every one, passes a test), Lists (each word and each two, by their positions), Entries (the
-- entries of a list after a store), Concat (lists one after the other), Filter (the words that pass a test), Insert (a list with one word put
-- in), Copies (lists written to a buffer), Back (a walk from the end of a list), Wide (the fields that a wide head moves).
pub mod Choices
pub mod Scan
pub mod AnyBelow
pub mod AllBelow
pub mod Lists
pub mod Entries
pub mod Concat
pub mod Filter
pub mod Insert
pub mod Copies
pub mod Back
pub mod Wide
