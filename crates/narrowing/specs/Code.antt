-- What passes between functions, and no public contract reaches: Tables (of begins and ends), Open (sets of which some members are placed).
pub mod Tables
pub mod Open
