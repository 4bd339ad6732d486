-- The laws of `specs/private/Marks.antt`: `Laws` on a mark line at a position of a text, `Steps` on the loop over the lines of a group and on the header.
pub mod Laws
pub mod Steps
