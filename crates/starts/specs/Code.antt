-- What passes between functions, and no public contract reaches: Latest (the tables of rows 8 and 9), Given (what the functions of the rows
-- ask).
pub mod Latest
pub mod Given
