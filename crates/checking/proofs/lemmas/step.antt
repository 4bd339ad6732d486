-- The laws of `specs/Step.antt`: `Matching` has those of two gates by masks, `OneMore` and `TwoGates` by lines, `Passing` those of gates that may pass, `Searching` those of the search, `Moving` those of the words that move.
pub mod Matching
pub mod Searching
pub mod Moving
pub mod OneMore
pub mod TwoGates
pub mod Passing
pub mod Verdicts
pub mod Relation
pub mod Calls
pub mod Keeping
pub mod Laws
