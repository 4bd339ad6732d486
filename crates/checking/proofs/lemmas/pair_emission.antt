-- The laws of the sizes and the emission of a pair: `Sums` its sizes, `Fits` its literals and words, `Outcomes` what the parts of the sizes answer, `Answers` and `Laws` what emission answers and leaves.
pub mod Sums
pub mod Fits
pub mod Outcomes
pub mod Answers
pub mod Laws
pub mod Unmarked
