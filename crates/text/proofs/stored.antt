-- `Laws` on the clauses that words store and their text, `Sizing` on what the loop over their sizes keeps.
pub mod Laws
pub mod Sizing
