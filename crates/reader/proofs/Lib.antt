-- Laws that belong to no one function: Files (what is a file).
pub mod Files
