-- What is proved of the answers of sizes and emission, in document 01's words.
use Rattle.std.specs.Prelude.{◌≡◌, ℕ, ◌<◌, ◌≤◌, ◌↔◌, List, length, ℤ}
use Rattle.bits.specs.Lists.{over}
use Rattle.circuit.specs.Gate.{max_miter_gates}
use Rattle.circuit.specs.Outcome.{served, refused, Wrong, Fails, Untouched}
use Rattle.circuit.specs.Refusal.{no_room}
use Rattle.circuit.specs.Words.{gates_of, Cascade, WordsRefused}
use Rattle.checking.specs.declared.clauses.Totals.{Totals}
use Rattle.checking.specs.Clauses.{clauses_of, variables_of}
use Rattle.checking.specs.Stored.{stored}
use Rattle.checking.specs.Sizes.{totals, sizes_outcome}
use Rattle.checking.specs.Emit.{emit_outcome, emit_buffer}

-- a cascade of no more gates than a miter may have; t has the variables, clauses and words of its list
pub record Counted (n : ℕ) (ws : List ℕ) (t : Totals) : Type 0 where
  pub gates : ℕ
  pub good : Cascade n ws max_miter_gates gates
  pub sizes : t ≡ totals (variables_of n (gates_of ws)) (length (clauses_of n (gates_of ws))) (length (stored (clauses_of n (gates_of ws))))

-- what is wrong with an emission: with the words, or 10 for a cascade and a buffer of fewer words than its list has
abbrev pub EmitRefused : ℕ → List ℕ → ℕ → ℕ → ℕ → Type 0
EmitRefused n ws room = Wrong (WordsRefused n ws max_miter_gates) (Counted n ws) (λ t. Fails (room < t.words) no_room 0)

pub record EmitLaws : Type 0 where
  -- sizes: served exactly for a cascade, else refused by what is wrong
  pub sizes_served : (n : ℕ) (ws : List ℕ) (t : Totals) → (sizes_outcome n ws ≡ served t) ↔ Counted n ws t
  pub sizes_refused : (n : ℕ) (ws : List ℕ) (number place : ℕ) → (sizes_outcome n ws ≡ refused number place) ↔ WordsRefused n ws max_miter_gates number place
  -- emission: served exactly where the buffer has room besides, with the list at its start and the rest as it was; else refused by what is wrong, with the buffer as it was
  pub emit_served : (n : ℕ) (ws : List ℕ) (room : ℕ) (t : Totals) → (emit_outcome n ws room ≡ served t) ↔ ((Counted n ws t) × (t.words ≤ room))
  pub emit_leaves : (n : ℕ) (ws : List ℕ) (out : List ℤ) (t : Totals) → emit_outcome n ws (length out) ≡ served t → emit_buffer n ws out ≡ over (stored (clauses_of n (gates_of ws))) out
  pub emit_untouched : (n : ℕ) (ws : List ℕ) (out : List ℤ) → Untouched (emit_outcome n ws (length out)) out (emit_buffer n ws out)
  pub emit_refused : (n : ℕ) (ws : List ℕ) (room number place : ℕ) → (emit_outcome n ws room ≡ refused number place) ↔ EmitRefused n ws room number place
