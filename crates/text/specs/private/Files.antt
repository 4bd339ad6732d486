-- For the contracts of the functions that read files: what a cascade in a lent room is.
use Rattle.std.specs.Prelude.{ℕ}
use Rattle.circuit.specs.Words.{gates_of}
use Rattle.circuit.specs.File.{Reading}
use Rattle.text.specs.declared.pair.CascadeRead.{CascadeRead}
use Rattle.text.specs.declared.pair.StartRead.{StartRead}
use Rattle.text.specs.declared.pair.PairRead.{PairRead}
use Rattle.text.specs.Compare.{CascadePair, cascades}

-- a cascade that took so many bytes
abbrev pub whole_of : ℕ → CascadeRead → Reading
whole_of taken c = record { header = c.header; gates = gates_of c.words.now; taken = taken }

abbrev pub reading_of : StartRead → Reading
reading_of s = whole_of s.taken s.cascade

abbrev pub pair_of : PairRead → CascadePair
pair_of p = cascades p.first.header (gates_of p.first.words.now) (gates_of p.second.words.now)
