-- What passes between functions, and no public contract reaches: Judged (what the rows show of a plan that passes them),
-- Compared (row 11 part by part).
pub mod Judged
pub mod Compared
