-- The laws of `specs/Gate.antt`: `Valid` and `Effect` by masks and by lines, and `Controls` by the list of controls.
pub mod Valid
pub mod Effect
pub mod Controls
