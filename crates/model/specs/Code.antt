-- What passes between functions, and no public contract reaches: Forms (all children of a node), Arrays (the two records as the code has
-- them), Represents (when arrays represent two records), Table (the table of ends).
pub mod Forms
pub mod Arrays
pub mod Represents
pub mod Table
