-- `Laws`: a text that is written where it fits.
pub mod Laws
