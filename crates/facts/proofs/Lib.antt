-- Laws that belong to no one function: Lists (lists of facts: how long they are, how they are written), Ascent (they ascend).
pub mod Lists
pub mod Ascent
