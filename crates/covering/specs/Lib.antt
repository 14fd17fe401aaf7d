-- The definitions of `covering`: Cover (what it is to cover), Code (what passes between functions).
pub mod Cover
pub mod Code
