-- For the proofs of the crates above: `Bools` has laws on tests, `Digits`, `Single` and `Lowest` those on digits, and `Lists` those on lists and buffers, and `Walks` bounds of a turn over a slice.
pub mod Bools
pub mod Digits
pub mod Lists
pub mod Lowest
pub mod Single
pub mod Walks
