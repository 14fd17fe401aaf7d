-- Laws that belong to no one function: Forms (the forms and their numbers, and a node's children), Named (that each node is named once goes
-- over to a procedure that agrees).
pub mod Forms
pub mod Named
