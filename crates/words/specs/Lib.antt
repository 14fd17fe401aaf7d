-- The definitions that the contracts of `words` cite, and that those of the layers above are written in: Tests (tests put together),
-- Fields (the fields of each kind of word), Scan (what a list of words has, by a test on a word),
-- Lists (what each word of a list is, and each two; a word put in), Code (what passes between functions).
pub mod Tests
pub mod Fields
pub mod Scan
pub mod Lists
pub mod Code
