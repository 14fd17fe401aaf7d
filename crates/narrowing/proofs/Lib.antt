-- Laws that belong to no one function: Moves and Narrowing (what members keep as one of them is placed).
pub mod Moves
pub mod Narrowing
