-- What passes between functions, and no public contract reaches: Given (a trial that was judged, that has a start more, what the rows of a
-- move give), Called (the rows of the four calls).
pub mod Given
pub mod Called
