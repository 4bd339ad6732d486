-- The laws of `specs/Reduce.antt`: `Laws` has those of its definition, `Turns` those of the loop over words, and `Relation` the relation.
pub mod Laws
pub mod Turns
pub mod Relation
