-- Laws that belong to no one function: ShiftSets (row 15 by sets of moments).
pub mod ShiftSets
