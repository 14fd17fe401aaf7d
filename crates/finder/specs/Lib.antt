-- What find answers and leaves behind: Find; Code (what passes between functions).
pub mod Find
pub mod Code
