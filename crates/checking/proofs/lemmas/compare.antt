-- `Laws` has the laws of `specs/Compare.antt`.
pub mod Laws
