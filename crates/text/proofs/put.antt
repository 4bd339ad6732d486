-- `Laws`: two writes in a row.
pub mod Laws
