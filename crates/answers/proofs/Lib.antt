-- Laws that belong to no one function: Rows (the first row that fits), Range (answers fit their fields), Packed (a packed answer reads back).
pub mod Rows
pub mod Range
pub mod Packed
