-- Laws that belong to no one function: GroupTable (the groups of a job), GroupWalk (what row 16 is counted over).
pub mod GroupTable
pub mod GroupWalk
