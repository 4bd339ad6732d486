-- `Laws` has the laws of `specs/Run.antt`, `Records` those of a run over gate records.
pub mod Laws
pub mod Records
