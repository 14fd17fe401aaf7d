-- How long a reading can be: all in Code, since no public contract reaches it.
pub mod Code
