-- The laws of `specs/Text.antt` and `specs/File.antt`: `MarkLines` on mark lines, `Lines` on lines and fields, `Numbers` on number fields, `Controls` on a gate's controls,
-- `Texts` reads what was written, `Offences` tells what a reading says of its text, `RoundTrip` has the two calls one after the other, and `Rows` a row with marks.
pub mod MarkLines
pub mod Groups
pub mod Headers
pub mod Lines
pub mod Numbers
pub mod Controls
pub mod Texts
pub mod Offences
pub mod Laws
pub mod Unmarked
pub mod Steps
pub mod Writes
pub mod RoundTrip
pub mod Rows
pub mod fill
pub mod marks
pub mod put
pub mod scan
