-- What only the contracts of private functions cite.
pub mod Emitter
pub mod Emission
pub mod Sums
pub mod StepCode
pub mod Narrowing
