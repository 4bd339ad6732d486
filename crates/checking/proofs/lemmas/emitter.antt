-- The laws of the one-gate emitter: `Parts` on what each part writes, `Whole` on a gate.
pub mod Parts
pub mod Whole
