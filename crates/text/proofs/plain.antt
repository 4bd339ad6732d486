-- The proofs of the functions for a clause list as OR clauses alone: `Short` and `Xors` on the clauses of a list, `Laws` on those of one record.
pub mod Short
pub mod Xors
pub mod Laws
