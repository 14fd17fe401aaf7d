-- Laws that belong to no one function: Cover (when some choice of ends covers), Laws (some number below k, one number more), Needs (from which
-- end on a member asks nothing more).
pub mod Cover
pub mod Laws
pub mod Needs
