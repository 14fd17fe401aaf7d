-- The definitions that the contracts of `theory` cite: Answers (the answers of check and fill, and what fill writes), Trajectory (what a
-- reading may use of a job and its starts), Code (what passes between functions); and Demand (demand 2, as statements).
pub mod Answers
pub mod Trajectory
pub mod Demand
pub mod Code
