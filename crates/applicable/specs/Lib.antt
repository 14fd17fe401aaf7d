-- The definitions that the contracts of `applicable` cite: all in Code, since no public contract reaches them.
pub mod Code
