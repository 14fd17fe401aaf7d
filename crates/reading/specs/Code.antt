-- What passes between functions, and no public contract reaches: Forms (what the code asks of a procedure and a trajectory), Rule (one step
-- of the rules, over any relation of ends), Quiet (quiet pauses by the set of all start moments), Table (what filling the table of ends
-- asks and leaves).
pub mod Forms
pub mod Rule
pub mod Quiet
pub mod Table
