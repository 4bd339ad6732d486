-- The laws of `specs/private/Scan.antt`: `Laws` on the byte, the field and the word at a position, `Rest` on the line from there on.
pub mod Laws
pub mod Rest
