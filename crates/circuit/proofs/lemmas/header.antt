-- The laws of headers: `Marks` those of the masks and of what they say of states and lines, `Tests` those of the tests of a caller's header and words, `Runs` those of two runs compared.
pub mod Marks
pub mod Tests
pub mod Runs
