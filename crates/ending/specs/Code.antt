-- What passes between functions, and no public contract reaches: Ends (the masks of a set's conditions, and the ends that they leave where the
-- begins are fixed), Search (what a search asks and finds).
pub mod Ends
pub mod Search
