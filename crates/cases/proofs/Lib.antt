-- The cases hold. Decision and Decides (a test that tells what has a reading, and its law), Only (a test on each reading, and its law), Test (the
-- test of a case), Computed (the table passes it, by computing), Laws (what a case that passes is owed by find's contract).
pub mod Decision
pub mod Decides
pub mod Only
pub mod Test
pub mod Computed
pub mod Laws
