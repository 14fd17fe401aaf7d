-- What passes between functions, and no public contract reaches: GroupTable (the tables of row 16, and what its function asks).
pub mod GroupTable
