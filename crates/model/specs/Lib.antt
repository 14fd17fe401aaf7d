-- What passes from the theory to the reading layer, and all that the rules of reading see: Trajectory (a plan that passed), Procedure (a
-- job's nodes), Forms (the forms of nodes and conditions, a node's fields, the children that its word names), Code (what passes between
-- functions).
pub mod Trajectory
pub mod Procedure
pub mod Forms
pub mod Code
