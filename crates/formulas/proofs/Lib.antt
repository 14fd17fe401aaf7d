-- Laws that belong to no one function: Tables (the two tables are the lesser and the greater), Held (has held for), Laws (the values of formulas),
-- Columns (a table on the way).
pub mod Tables
pub mod Held
pub mod Laws
pub mod Columns
