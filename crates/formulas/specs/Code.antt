-- What passes between functions, and no public contract reaches: Table (a table of values, and what it is found from), Lent (the struct that
-- lends it).
pub mod Table
pub mod Lent
