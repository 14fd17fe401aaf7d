-- Writing out a reading: all in Code, since no public contract reaches it.
pub mod Code
