-- Laws that belong to no one function: Judging (the rows of the job and of the trial, one after the other), None (where no row fits), Moves
-- (what a move hands back), Handed (a trial as words), CallRows (the rows of the four calls), Range (answers fit their fields).
pub mod Judging
pub mod None
pub mod Moves
pub mod Handed
pub mod CallRows
pub mod Range
