-- The laws of the clause list of two cascades with the same header: `Parts` what it is made of, `Lines` its constants and the lines that count, `Meaning` what it tells, `Alone` steps and reductions on each of the two, `Equality` the theorem, and `StandIns` what it shuts out.
pub mod Parts
pub mod Lines
pub mod Meaning
pub mod Alone
pub mod Equality
pub mod StandIns
pub mod Laws
pub mod Junk
