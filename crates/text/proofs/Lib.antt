-- The laws of `specs/`: `Decimal` on numbers, `Reading` on a text that is read back, `Strict` on what a text is that is read, `FileOutcome` on what is answered to two files, `WholeFile` on a file to its last byte, `Fields` on a word and three numbers, `Pairs` on the headers and the clause list of two files, `Sizes` on how long a text is,
-- `Telling` on what the program's text tells, `Refusals` on what is refused, `ProgramLaws` on all that the program writes, `StandIns` on other programs, `Rows` on the table of rows.
-- Of two files that are compared: `PlainClauses` on an XOR as OR clauses, `Rooms` on the rooms that are lent, `Verdicts` on what two files are, `Reduced` on what the reductions leave, `Compares` on what is written, `Longest` on how long that is, `Others` on any program with the claim;
-- `Inputs` on one input that is checked. `Writes`, for the programs above, on what a call wrote.
pub mod Decimal
pub mod Reading
pub mod Strict
pub mod FileOutcome
pub mod WholeFile
pub mod Fields
pub mod PlainClauses
pub mod Pairs
pub mod Sizes
pub mod Rooms
pub mod Telling
pub mod Refusals
pub mod ProgramLaws
pub mod Verdicts
pub mod Reduced
pub mod Compares
pub mod Longest
pub mod StandIns
pub mod Others
pub mod Inputs
pub mod Rows
pub mod Writes
