-- The proved cases as data: Cases (jobs, plans, what find owes them, and the statement that it does).
pub mod Cases
