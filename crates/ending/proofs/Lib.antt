-- Laws that belong to no one function: Conditions (the ends that conditions leave), Leaves (all begins fixed).
pub mod Conditions
pub mod Leaves
