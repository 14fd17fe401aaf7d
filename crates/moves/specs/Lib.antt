-- Stepping a plan by hand: Trials (a trial, its moves, their refusals), Calls (the answers of the four calls on a trial's words), Promises
-- (what every list of moves gives, as statements).
pub mod Trials
pub mod Calls
pub mod Promises
