-- The laws of the clause list: `Tests` truth tables, `Gates` the clauses of gates, `Forced` the forced assignment, `Within` literals, `Fits` the numbers of variables and words, `Meaning` what the list tells, `Reading` stored words, `StandIns` 01's stand-ins, `Sums`, `Loop` and `Totals` sizes, `Rows` the rows, `Maps` what the list is made of, and other maps of current variables.
pub mod Tests
pub mod Gates
pub mod Forced
pub mod Within
pub mod Fits
pub mod Meaning
pub mod Reading
pub mod StandIns
pub mod Sums
pub mod Rows
pub mod Loop
pub mod Totals
pub mod Maps
pub mod Answers
pub mod Laws
