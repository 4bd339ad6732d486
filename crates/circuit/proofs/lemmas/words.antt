-- The laws of `specs/Words.antt`: `Gates` those of gates and their words, `Tests` those of the tests of a caller's words.
pub mod Gates
pub mod Tests
