-- `Masks` has the laws of masks and of one state more, `Loops` those of the loops over gates and states and of what the call answers,
-- `Laws` those of candidates, repairs and excluded lines, `StandIns` what they shut out and the record of them,
-- `Refusals` the number and the place with which each call on two cascades is refused, and `Unmarked` that without marks they are those of document 01.
pub mod Masks
pub mod Loops
pub mod Laws
pub mod StandIns
pub mod Refusals
pub mod Unmarked
