-- What is proved of a full reduction, in document 01's words.
use Rattle.std.specs.Prelude.{◌≡◌, ℕ, ◌+◌, ◌*◌, ◌≤◌, true, ◌↔◌, List, length}
use Rattle.circuit.specs.declared.gate.Gate.{Gate}
use Rattle.circuit.specs.Gate.{max_lines, max_miter_gates}
use Rattle.circuit.specs.Outcome.{served, refused, Untouched}
use Rattle.circuit.specs.Words.{gates_of, all_valid, Cascade, WordsRefused}
use Rattle.checking.specs.Match.{Kind}
use Rattle.checking.specs.Step.{found, none}
use Rattle.checking.specs.Reduce.{Reduced, reduce_gates, numbered, reduce_outcome, reduce_buffer}
use Rattle.checking.specs.StepLaws.{Steps, Keeps, Stands}

-- steps until none, from gates to the gates left, with p pairs and m merges
pub data Reduces : List Gate → List Gate → ℕ → ℕ → Type 0 where
  ends : {gs : List Gate} → Steps gs none → Reduces gs gs 0 0
  pairs : {gs hs last : List Gate} {i j p m : ℕ} → Steps gs (found i j Kind.pair hs) → Reduces hs last p m → Reduces gs last (p + 1) m
  drops : {gs hs last : List Gate} {i j p m : ℕ} → Steps gs (found i j Kind.drop hs) → Reduces hs last p m → Reduces gs last p (m + 1)
  turns : {gs hs last : List Gate} {i j p m : ℕ} → Steps gs (found i j Kind.turn hs) → Reduces hs last p m → Reduces gs last p (m + 1)

pub record ReduceLaws : Type 0 where
  -- the reduction is exactly the relation
  pub reduce_reduces : (gs : List Gate) → all_valid max_lines gs ≡ true → (r : Reduced (List Gate)) → (reduce_gates gs ≡ r) ↔ Reduces gs r.left r.pairs r.merges
  -- it keeps the run and validity, and gates before = gates after + 2p + m
  pub reduce_keeps : (n : ℕ) (gs last : List Gate) (p m : ℕ) → n ≤ max_lines → all_valid n gs ≡ true → Reduces gs last p m → Keeps n gs last
  pub reduce_count : (gs last : List Gate) (p m : ℕ) → Reduces gs last p m → length gs ≡ length last + (2 * p + m)
  -- the call: served for a cascade, else refused by what is wrong
  pub call_served : (n : ℕ) (ws : List ℕ) (k : ℕ) → Cascade n ws max_miter_gates k → reduce_outcome n ws ≡ served (numbered (reduce_gates (gates_of ws)))
  pub call_refused : (n : ℕ) (ws : List ℕ) (number place : ℕ) → (reduce_outcome n ws ≡ refused number place) ↔ WordsRefused n ws max_miter_gates number place
  -- its words: the gates left, and zeros; as they were where it is refused
  pub call_stands : (n : ℕ) (ws : List ℕ) (k : ℕ) → Cascade n ws max_miter_gates k → Stands n ws (reduce_buffer n ws) (reduce_gates (gates_of ws)).left
  pub call_untouched : (n : ℕ) (ws : List ℕ) → Untouched (reduce_outcome n ws) ws (reduce_buffer n ws)
  -- the number given as n does not matter where it serves
  pub call_lines : (n m : ℕ) (ws : List ℕ) (k l : ℕ) → Cascade n ws max_miter_gates k → Cascade m ws max_miter_gates l
      → (reduce_outcome n ws ≡ reduce_outcome m ws) × (reduce_buffer n ws ≡ reduce_buffer m ws)
