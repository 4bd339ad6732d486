-- `Laws` has the laws of `specs/Check.antt`: what a call and a list of calls leave. `Claim` has demand 3 of what the code answers.
pub mod Laws
pub mod Claim
