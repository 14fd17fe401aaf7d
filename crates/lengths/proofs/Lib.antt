-- Laws: Sums (over a list, over the numbers below n), Tree (what the nodes below a node weigh), Words (how many words a reading has),
-- Loops (which nodes a loop is above), Length (the length bound).
pub mod Sums
pub mod Tree
pub mod Words
pub mod Loops
pub mod Length
