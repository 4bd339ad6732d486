-- `Laws` has the laws of `specs/Inverse.antt`.
pub mod Laws
