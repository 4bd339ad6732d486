-- What only the contracts of private functions cite.
pub mod Scan
pub mod Fill
pub mod Put
pub mod Marks
