-- What passes between functions, and no public contract reaches: Bound (the sum over all nodes).
pub mod Bound
