-- Laws that belong to no one function: Job (what the reader asks of a job), Seeking (what the table and the writer give, in the job's
-- definitions), Refusals (which row an answer of check comes from).
pub mod Job
pub mod Seeking
pub mod Refusals
