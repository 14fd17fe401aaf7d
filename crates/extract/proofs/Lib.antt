-- Laws that belong to no one function:
--     Searches  the searches for the moments of two parts
--     Choice    the parts of a node of each form
--     Written   a buffer written piece by piece
--     Steps     the steps of the writers
--     Whole     the whole reading, by the length bound
pub mod Searches
pub mod Choice
pub mod Written
pub mod Steps
pub mod Whole
