-- `Laws`: what a file and two files say.
pub mod Laws
