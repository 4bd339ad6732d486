-- The laws of `specs/private/Fill.antt`.
pub mod Laws
