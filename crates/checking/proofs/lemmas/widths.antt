-- `Laws` has the test of a word and of a list, `Calls` the laws of `specs/WidthLaws.antt`.
pub mod Laws
pub mod Calls
