-- A cascade that was read, and the bytes of a text, in C.
use Rattle.std.specs.Prelude.{ℕ}
use Rattle.circuit.specs.Outcome.{Outcome, served, refused}
use Rattle.circuit.specs.declared.file.ReadCounts.{ReadCounts}
use Rattle.capi.specs.declared.file.CascadeReadAnswer.{CascadeReadAnswer}
use Rattle.capi.specs.declared.file.CascadeWriteAnswer.{CascadeWriteAnswer}

abbrev pub read_answer : Outcome ReadCounts → CascadeReadAnswer
read_answer (served c) = record { number = 0; place = 0; lines = c.header.lines; constants = c.header.constants; values = c.header.values; junk = c.header.junk; gates = c.gates; taken = c.taken }
read_answer (refused number place) = record { number = number; place = place; lines = 0; constants = 0; values = 0; junk = 0; gates = 0; taken = 0 }

abbrev pub write_answer : Outcome ℕ → CascadeWriteAnswer
write_answer (served k) = record { number = 0; place = 0; written = k }
write_answer (refused number place) = record { number = number; place = place; written = 0 }
