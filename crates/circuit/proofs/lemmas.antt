-- `Outcome` has the laws of `specs/Outcome.antt`; those of each module stand in its own folder.
pub mod Outcome
pub mod file
pub mod gate
pub mod header
pub mod inverse
pub mod run
pub mod words
