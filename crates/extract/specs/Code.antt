-- What passes between functions, and no public contract reaches: Source (what a reading is written from), Search (the searches for the moments of two parts), Parts (a choice of
-- parts, and when it makes a reading), Contract (what the writers ask and promise).
pub mod Source
pub mod Search
pub mod Parts
pub mod Contract
