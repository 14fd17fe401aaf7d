-- The definitions that the contracts of `shifts` cite: all in Code, since no public contract reaches them.
pub mod Code
