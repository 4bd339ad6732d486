-- `Laws`: what the functions from an input to its clause list owe, case by case.
pub mod Laws
