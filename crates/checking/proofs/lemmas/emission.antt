-- The laws of the emission: `Rest` on one stretch after another, `Constants` on the walk over the constants, `Gates` on the loop over the gates, `Lines` on the loops over the lines, `Front` on the clauses before those of the d, `Whole` on the list.
pub mod Rest
pub mod Constants
pub mod Gates
pub mod Lines
pub mod Front
pub mod Whole
