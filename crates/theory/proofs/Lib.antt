-- Laws that belong to no one function: Laws (rows one after the other, the comparison of two lists, words written in front), StartRows (the rows on starts, one after the other), Turns (the comparison, one moment after the other), Passing (what a
-- plan that passes has), Demand (what fill writes passes check), Range (every answer fits its fields), StartSets (the moments at which each
-- action starts), Naming (a node is named as often as the nodes name it in sum), Represented (the arrays represent the procedure and the trajectory).
pub mod Laws
pub mod StartRows
pub mod Turns
pub mod Passing
pub mod Demand
pub mod Range
pub mod StartSets
pub mod Represented
pub mod Naming
