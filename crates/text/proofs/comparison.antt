-- `Laws`: what comparing two cascades owes.
pub mod Laws
