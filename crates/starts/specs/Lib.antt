-- The definitions that the contracts of `starts`, `shifts` and `groups` cite: Rows (the rows on starts, 6 to 10, 15 and 16), Code (what passes between functions);
-- and Lawful (starts that no row fits, by their words; groups within their limits).
pub mod Rows
pub mod Lawful
pub mod Code
