-- Laws that belong to no one function:
--     Step      the rule of each form is sound and complete, and asks only for rows that stand before
--     Transfer  readings go over to a procedure and a trajectory that agree where they look, and know more
--     Agreement two that agree where readings look have the same table and count
--     Quiet     the pause of an end window
--     Windows   the moments that lie a pause after the members of a set
--     Nodes     a node that is a task set, whose rows are filled together
--     Tables    the table as it is filled
--     Listing   the table's ends, listed
--     Counts    two counts of the same triples agree
pub mod Step
pub mod Transfer
pub mod Agreement
pub mod Quiet
pub mod Windows
pub mod Nodes
pub mod Tables
pub mod Listing
pub mod Counts
