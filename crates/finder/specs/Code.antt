-- What passes between functions, and no public contract reaches: Seek (what seeking a reading asks).
pub mod Seek
