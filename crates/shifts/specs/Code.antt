-- What passes between functions, and no public contract reaches: ShiftSets (the tables of row 15).
pub mod ShiftSets
