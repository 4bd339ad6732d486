-- What is proved of the answers of the sizes and the emission of a pair, in document 02's words.
use Rattle.std.specs.Prelude.{◌≡◌, ℕ, ◌+◌, ◌*◌, ◌<◌, ◌≤◌, true, ◌↔◌, List, length, ℤ}
use Rattle.bits.specs.Lists.{over}
use Rattle.circuit.specs.declared.gate.Gate.{Gate}
use Rattle.circuit.specs.declared.header.Header.{Header}
use Rattle.circuit.specs.declared.words.Counts.{Counts}
use Rattle.circuit.specs.Gate.{max_lines, max_gates}
use Rattle.circuit.specs.Header.{unmarked}
use Rattle.circuit.specs.Outcome.{served, refused, Wrong, Fails, Untouched}
use Rattle.circuit.specs.Refusal.{no_room}
use Rattle.circuit.specs.Words.{gates_of, all_valid, HeadedPair, HeadedPairRefused}
use Rattle.checking.specs.declared.clauses.Totals.{Totals}
use Rattle.checking.specs.Miter.{miter_gates}
use Rattle.checking.specs.Stored.{stored, AllFit}
use Rattle.checking.specs.Sizes.{totals, sizes_of}
use Rattle.checking.specs.Pair.{pair_clauses, pair_variables, pair_sizes_of, pair_sizes_outcome, pair_emit_outcome, pair_emit_buffer}

-- two cascades with the same header, of no more gates each than a cascade may have; t has the variables, clauses and words of their list
pub record PairCounted (ha : Header) (a : List ℕ) (hb : Header) (b : List ℕ) (t : Totals) : Type 0 where
  pub counts : Counts
  pub good : HeadedPair ha a hb b counts
  pub sizes : t ≡ totals (pair_variables ha (gates_of a) (gates_of b)) (length (pair_clauses ha (gates_of a) (gates_of b))) (length (stored (pair_clauses ha (gates_of a) (gates_of b))))

-- what is wrong with an emission: with the pair, or 10 for a good pair and a buffer of fewer words than its list has
abbrev pub PairEmitRefused : Header → List ℕ → Header → List ℕ → ℕ → ℕ → ℕ → Type 0
PairEmitRefused ha a hb b room = Wrong (HeadedPairRefused ha a hb b) (PairCounted ha a hb b) (λ t. Fails (room < t.words) no_room 0)

pub record PairEmitLaws : Type 0 where
  -- sizes: served exactly for two cascades with the same header, else refused by what is wrong
  pub sizes_served : (ha : Header) (a : List ℕ) (hb : Header) (b : List ℕ) (t : Totals) → (pair_sizes_outcome ha a hb b ≡ served t) ↔ PairCounted ha a hb b t
  pub sizes_refused : (ha : Header) (a : List ℕ) (hb : Header) (b : List ℕ) (number place : ℕ)
      → (pair_sizes_outcome ha a hb b ≡ refused number place) ↔ HeadedPairRefused ha a hb b number place
  -- emission: served exactly where the buffer has room besides, with the list at its start and the rest as it was; else refused by what is wrong, with the buffer as it was
  pub emit_served : (ha : Header) (a : List ℕ) (hb : Header) (b : List ℕ) (room : ℕ) (t : Totals)
      → (pair_emit_outcome ha a hb b room ≡ served t) ↔ ((PairCounted ha a hb b t) × (t.words ≤ room))
  pub emit_leaves : (ha : Header) (a : List ℕ) (hb : Header) (b : List ℕ) (out : List ℤ) (t : Totals) → pair_emit_outcome ha a hb b (length out) ≡ served t
      → pair_emit_buffer ha a hb b out ≡ over (stored (pair_clauses ha (gates_of a) (gates_of b))) out
  pub emit_untouched : (ha : Header) (a : List ℕ) (hb : Header) (b : List ℕ) (out : List ℤ) → Untouched (pair_emit_outcome ha a hb b (length out)) out (pair_emit_buffer ha a hb b out)
  pub emit_refused : (ha : Header) (a : List ℕ) (hb : Header) (b : List ℕ) (room number place : ℕ)
      → (pair_emit_outcome ha a hb b room ≡ refused number place) ↔ PairEmitRefused ha a hb b room number place
  -- the sums gate by gate are the variables, clauses and words of the list; without marks they are those of the miter
  pub sizes_list : (h : Header) (a b : List Gate) → h.lines ≤ max_lines → all_valid h.lines a ≡ true → all_valid h.lines b ≡ true
      → pair_sizes_of h a b ≡ totals (pair_variables h a b) (length (pair_clauses h a b)) (length (stored (pair_clauses h a b)))
  pub unmarked_sizes : (n : ℕ) (a b : List Gate) → pair_sizes_of (unmarked n) a b ≡ sizes_of n (miter_gates a b)
  -- there are two variables at most for each line and each gate, and every number of a list fits a word
  pub variables_few : (h : Header) (a b : List Gate) → h.lines ≤ max_lines → pair_variables h a b ≤ 2 * h.lines + 2 * (length a + length b)
  pub words_fit : (h : Header) (a b : List Gate) → h.lines ≤ max_lines → length a ≤ max_gates → length b ≤ max_gates → all_valid h.lines a ≡ true → all_valid h.lines b ≡ true
      → AllFit (stored (pair_clauses h a b))
