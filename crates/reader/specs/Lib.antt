-- The definitions that the contracts of `reader` cite: Reply (what is printed for the bytes of two files), Printed (what is printed).
pub mod Reply
pub mod Printed
