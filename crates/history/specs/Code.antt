-- What passes between functions, and no public contract reaches: Tables (the tables of actions and states, and the history), Held (the
-- starts in hand that a walk carries), Stores (what stores into them leave), Passes (the two passes of a step), Lent (the struct that lends the
-- tables).
pub mod Tables
pub mod Held
pub mod Stores
pub mod Passes
pub mod Lent
