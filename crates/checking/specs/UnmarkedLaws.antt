-- Two cascades without marks: the sweep, the input check and the fault call answer, say and leave what document 01 asks of two cascades on n lines.
use Rattle.std.specs.Prelude.{◌≡◌, ℕ, zero, suc, ◌+◌, ◌*◌, ◌^◌, ◌<◌, Bool, true, cond, not, ◌↔◌, List, length, ℤ, ◌==◌, nat_le, nat_lt}
use Rattle.circuit.specs.declared.gate.Gate.{Gate}
use Rattle.circuit.specs.Header.{unmarked}
use Rattle.circuit.specs.Outcome.{Outcome, served, demand, and_then, written}
use Rattle.circuit.specs.Refusal.{bad_state, no_room, agreeing_state, too_wide}
use Rattle.circuit.specs.Words.{gates_of, words_of, all_valid, pair_outcome}
use Rattle.circuit.specs.declared.words.Counts.{Counts}
use Rattle.checking.specs.declared.clauses.Totals.{Totals}
use Rattle.checking.specs.Miter.{miter_gates}
use Rattle.checking.specs.Sizes.{sizes_outcome}
use Rattle.checking.specs.Emit.{emit_outcome, emit_buffer}
use Rattle.checking.specs.Pair.{pair_sizes_outcome, pair_emit_outcome, pair_emit_buffer}
use Rattle.circuit.specs.Run.{run, Equal, Differs}
use Rattle.checking.specs.Compare.{max_sweep_lines, Difference, none, lowest, difference_outcome, Says, differs_outcome}
use Rattle.checking.specs.Each.{each_from}
use Rattle.checking.specs.Faults.{gate_masks, fault_masks, fault_outcome, fault_buffer}

-- whether two cascades give different outputs on x
abbrev pub unequal_on : List Gate → List Gate → ℕ → Bool
unequal_on a b x = not (run a x == run b x)

-- the lowest of the k states from x on
unfoldable pub lowest_unequal : List Gate → List Gate → ℕ → ℕ → Difference
lowest_unequal a b x zero = none
lowest_unequal a b x (suc k) = cond (unequal_on a b x) (lowest x) (lowest_unequal a b (x + 1) k)

-- 2, 11, 6, 7 for each, 8, 13
abbrev pub unmarked_sweep : ℕ → List ℕ → ℕ → List ℕ → Outcome Difference
unmarked_sweep na a nb b =
    and_then (pair_outcome na a nb b) (λ counts.
    demand (nat_le na max_sweep_lines) too_wide 0 (served (lowest_unequal (gates_of a) (gates_of b) 0 (2 ^ na))))

-- all states agree; or this one differs and every lower one agrees
abbrev pub UnmarkedSays : ℕ → List Gate → List Gate → Difference → Type 0
UnmarkedSays n a b none = Equal n a b
UnmarkedSays n a b (lowest x) = Differs n a b x × ((y : ℕ) → y < x → run a y ≡ run b y)

-- 2, 11, 6, 7 for each, 8, 9
abbrev pub unmarked_input : ℕ → List ℕ → ℕ → List ℕ → ℕ → Outcome Bool
unmarked_input na a nb b x =
    and_then (pair_outcome na a nb b) (λ counts.
    demand (nat_lt x (2 ^ na)) bad_state 0 (served (unequal_on (gates_of a) (gates_of b) x)))

-- 2, 11, 6, 7 for each, 8, 9 over the whole list, 12, 10
abbrev pub unmarked_faults : ℕ → List ℕ → ℕ → List ℕ → List ℕ → ℕ → Outcome ℕ
unmarked_faults na a nb b xs room =
    and_then
    (and_then (pair_outcome na a nb b) (λ counts.
    and_then (each_from (λ x. nat_lt x (2 ^ na)) bad_state 0 xs) (λ k.
    and_then (each_from (unequal_on (gates_of a) (gates_of b)) agreeing_state 0 xs) (λ m. served counts.first))))
    (λ gates. demand (nat_le (gate_masks * gates) room) no_room 0 (served gates))

-- the words of the miter
abbrev pub words_of_miter : List ℕ → List ℕ → List ℕ
words_of_miter a b = words_of (miter_gates (gates_of a) (gates_of b))

-- 2, 11, 6, 7 for each, 8; then what is answered for the miter
abbrev pub unmarked_sizes : ℕ → List ℕ → ℕ → List ℕ → Outcome Totals
unmarked_sizes na a nb b = and_then (pair_outcome na a nb b) (λ counts. sizes_outcome na (words_of_miter a b))

abbrev pub unmarked_emission : ℕ → List ℕ → ℕ → List ℕ → ℕ → Outcome Totals
unmarked_emission na a nb b room = and_then (pair_outcome na a nb b) (λ counts. emit_outcome na (words_of_miter a b) room)

pub record UnmarkedLaws : Type 0 where
  pub sweep : (na : ℕ) (a : List ℕ) (nb : ℕ) (b : List ℕ) → difference_outcome (unmarked na) a (unmarked nb) b ≡ unmarked_sweep na a nb b
  pub says : (n : ℕ) (a b : List Gate) → all_valid n a ≡ true → all_valid n b ≡ true → (d : Difference) → Says (unmarked n) a b (served d) ↔ UnmarkedSays n a b d
  pub input : (na : ℕ) (a : List ℕ) (nb : ℕ) (b : List ℕ) (x : ℕ) → differs_outcome (unmarked na) a (unmarked nb) b x ≡ unmarked_input na a nb b x
  pub masks : (na : ℕ) (a : List ℕ) (nb : ℕ) (b xs : List ℕ) (room : ℕ) → fault_outcome (unmarked na) a (unmarked nb) b xs room ≡ unmarked_faults na a nb b xs room
  pub buffer : (na : ℕ) (a : List ℕ) (nb : ℕ) (b xs out : List ℕ)
      → fault_buffer (unmarked na) a (unmarked nb) b xs out ≡ written (unmarked_faults na a nb b xs (length out)) (fault_masks na (gates_of a) xs) out
  -- the sizes and the emission of the pair answer and leave what those of its miter do
  pub sizes : (na : ℕ) (a : List ℕ) (nb : ℕ) (b : List ℕ) → pair_sizes_outcome (unmarked na) a (unmarked nb) b ≡ unmarked_sizes na a nb b
  pub emission : (na : ℕ) (a : List ℕ) (nb : ℕ) (b : List ℕ) (room : ℕ) → pair_emit_outcome (unmarked na) a (unmarked nb) b room ≡ unmarked_emission na a nb b room
  pub emitted : (na : ℕ) (a : List ℕ) (nb : ℕ) (b : List ℕ) (c : Counts) → pair_outcome na a nb b ≡ served c → (out : List ℤ)
      → pair_emit_buffer (unmarked na) a (unmarked nb) b out ≡ emit_buffer na (words_of_miter a b) out
