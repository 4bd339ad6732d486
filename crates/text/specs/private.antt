-- What only the contracts of private functions cite.
pub mod Words
pub mod Lists
pub mod Comparing
pub mod Checking
pub mod Files
