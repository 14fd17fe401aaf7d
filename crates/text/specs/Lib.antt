-- The definitions that the contracts of `text` cite: Files (sizes, words of bytes, starts and facts of a plan), Report (the printed text of an
-- answer), Code (what passes between functions).
pub mod Files
pub mod Report
pub mod Code
