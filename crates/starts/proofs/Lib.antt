-- Laws that belong to no one function: Rows (rows on the words of a list), StartsFormed (what row 6 shows), LatestFinish (rows 8 and 9 by the
-- latest finishes), ClashTable (the table of pairs that clash), GroupLimits (row 16 for any group: at most the limit is in use at each moment),
-- Needs (needs by the history), Opposed (which two starts clash), RefusalFits (the refusal fits an answer's fields), Lawful (no row fits exactly
-- lawful starts).
pub mod Rows
pub mod StartsFormed
pub mod LatestFinish
pub mod ClashTable
pub mod GroupLimits
pub mod Needs
pub mod RefusalFits
pub mod Lawful
pub mod Opposed
