-- `lemmas` has what the proofs of this crate share, by module; the crates above name only what `Promises` passes on.
mod lemmas
pub mod Promises
