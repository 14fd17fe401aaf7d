-- What passes between functions, and no public contract reaches: Tables (by pairs of members).
pub mod Tables
