-- `Laws`: a state in characters.
pub mod Laws
