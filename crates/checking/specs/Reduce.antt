-- The full reduction: steps until none, with the gates left, the pairs and the merges counted.
use Rattle.std.specs.Prelude.{ℕ, zero, suc, ◌+◌, List, length}
use Rattle.circuit.specs.declared.gate.Gate.{Gate}
use Rattle.circuit.specs.Gate.{max_miter_gates}
use Rattle.circuit.specs.Outcome.{Outcome, served, and_then}
use Rattle.circuit.specs.Words.{gates_of, check_outcome}
use Rattle.checking.specs.declared.reduce.Reduction.{Reduction}
use Rattle.checking.specs.Match.{Kind}
use Rattle.checking.specs.Step.{Step, found, none, step_gates, filled, served_words}

-- the gates left, or their number, the pairs p and the merges m
pub record Reduced (A : Type 0) : Type 0 where
  pub left : A
  pub pairs : ℕ
  pub merges : ℕ

-- one step more before the others: a pair, or a merge (drop or turn)
abbrev pub tallied : {A : Type 0} → Kind → Reduced A → Reduced A
tallied Kind.pair r = record { left = r.left; pairs = r.pairs + 1; merges = r.merges }
tallied Kind.drop r = record { left = r.left; pairs = r.pairs; merges = r.merges + 1 }
tallied Kind.turn r = record { left = r.left; pairs = r.pairs; merges = r.merges + 1 }

-- where a step found something it goes on with the gates that then stand, else it ends
abbrev pub continued : Step (List Gate) → List Gate → (List Gate → Reduced (List Gate)) → Reduced (List Gate)
continued (found i j k hs) gs more = tallied k (more hs)
continued none gs more = record { left = gs; pairs = 0; merges = 0 }

-- at most so many steps
unfoldable pub reduce_by : ℕ → List Gate → Reduced (List Gate)
reduce_by zero gs = record { left = gs; pairs = 0; merges = 0 }
reduce_by (suc steps) gs = continued (step_gates gs) gs (reduce_by steps)

-- a step takes a gate away, so there are no more steps than gates
unfoldable pub reduce_gates : List Gate → Reduced (List Gate)
reduce_gates gs = reduce_by (length gs) gs

-- the same with the number of gates
abbrev pub numbered : Reduced (List Gate) → Reduced ℕ
numbered r = record { left = length r.left; pairs = r.pairs; merges = r.merges }

-- 2, 11, 6, 7
unfoldable pub reduce_outcome : ℕ → List ℕ → Outcome (Reduced ℕ)
reduce_outcome n ws = and_then (check_outcome n ws max_miter_gates) (λ k. served (numbered (reduce_gates (gates_of ws))))

-- the words of the gates left, and zeros after them
unfoldable pub reduce_buffer : ℕ → List ℕ → List ℕ
reduce_buffer n ws = served_words (reduce_outcome n ws) (filled (reduce_gates (gates_of ws)).left (length ws)) ws

-- the answers in document 01's values
abbrev pub of_reduction : Reduction → Reduced ℕ
of_reduction r = record { left = r.gates; pairs = r.pairs; merges = r.merges }
