-- What this crate proves of gates, of a caller's words, of headers, of cascades and of cascade files.
use Rattle.std.specs.Prelude.{◌≡◌, ℕ, ◌*◌, ◌%◌, ◌^◌, ◌<◌, ◌≤◌, true, false, not, ◌&&◌, ◌||◌, ◌↔◌, List, ◌++◌, reverse, length, take, drop, ◌==◌, bit_or, bit_xor}
use Rattle.std.specs.Bool.{xor}
use Rattle.bits.specs.Digits.{bit, lines_in}
use Rattle.bits.specs.Lists.{over}
use Rattle.circuit.specs.declared.gate.Gate.{Gate}
use Rattle.circuit.specs.declared.header.Header.{Header}
use Rattle.circuit.specs.Gate.{max_lines, max_gates, not_gate, valid, fires, apply, missed, toggled, control_count, controls_of, all_met}
use Rattle.circuit.specs.Header.{unmarked, marks_good, marked, permits, alike, MarksByLines, Permitted, LineCounts}
use Rattle.circuit.specs.Outcome.{served, refused, Wrong, Fails, Untouched, Yields}
use Rattle.circuit.specs.Words.{gates_of, words_of, all_valid, check_outcome, Cascade, pair_outcome, WordsRefused, GoodPair, PairRefused, headed_outcome, Headed, HeadedRefused, headed_pair_outcome, HeadedPair, HeadedPairRefused}
use Rattle.circuit.specs.declared.words.Counts.{Counts}
use Rattle.circuit.specs.Run.{run, run_tested, Equal, Differs, EqualFor, DiffersFor, run_outcome, records_outcome}
use Rattle.circuit.specs.Refusal.{bad_state, no_room}
use Rattle.circuit.specs.Inverse.{inverse, inverse_outcome, inverse_buffer}
use Rattle.circuit.specs.FileLaws.{FileLaws}

-- every positive control is 1 and every negative one 0, line by line
pub record FiresByLines (g : Gate) (s : ℕ) : Type 0 where
  pub on : (k : ℕ) → bit g.positive k ≡ true → bit s k ≡ true
  pub off : (k : ℕ) → bit g.negative k ≡ true → bit s k ≡ false

-- a gate on n lines, line by line
pub record ValidByLines (n : ℕ) (g : Gate) : Type 0 where
  pub target_below : g.target < n
  pub positive_below : (k : ℕ) → n ≤ k → bit g.positive k ≡ false
  pub negative_below : (k : ℕ) → n ≤ k → bit g.negative k ≡ false
  pub apart : (k : ℕ) → bit g.positive k ≡ true → bit g.negative k ≡ false
  pub target_not_positive : bit g.positive g.target ≡ false
  pub target_not_negative : bit g.negative g.target ≡ false

pub record GateLaws : Type 0 where
  -- the tests by whole masks are those by lines, for every n
  pub fires_lines : (g : Gate) (s : ℕ) → (fires g s ≡ true) ↔ FiresByLines g s
  pub valid_lines : (n : ℕ) (g : Gate) → (valid n g ≡ true) ↔ ValidByLines n g
  pub valid_more : (m n : ℕ) (g : Gate) → m ≤ n → valid m g ≡ true → valid n g ≡ true
  -- a gate inverts its target where it fires, and nothing else; what is no gate on 64 lines does nothing
  pub apply_line : (g : Gate) (s k : ℕ) → valid max_lines g ≡ true → bit (apply g s) k ≡ xor (bit s k) (fires g s && k == g.target)
  pub apply_none : (g : Gate) (s : ℕ) → valid max_lines g ≡ false → apply g s ≡ s
  pub apply_not : (t s : ℕ) → t < max_lines → apply (not_gate t) s ≡ bit_xor s (2 ^ t)
  -- of a gate that was tested: a line is missed where it is a positive control and 0, or a negative one and 1; none is where the gate fires
  pub missed_line : (g : Gate) (s k : ℕ) → valid max_lines g ≡ true → bit (missed g s) k ≡ ((bit g.positive k && not (bit s k)) || (bit g.negative k && bit s k))
  pub missed_none : (g : Gate) (s : ℕ) → valid max_lines g ≡ true → (missed g s == 0) ≡ fires g s
  pub toggled_apply : (g : Gate) (s : ℕ) → valid max_lines g ≡ true → toggled g s ≡ apply g s
  pub apply_twice : (g : Gate) (s : ℕ) → apply g (apply g s) ≡ s
  pub apply_below : (n : ℕ) (g : Gate) (s : ℕ) → valid n g ≡ true → s < 2 ^ n → apply g s < 2 ^ n
  -- the control count is the number of lines in either mask
  pub count_lines : (n : ℕ) (g : Gate) → valid n g ≡ true → control_count g ≡ length (lines_in (bit_or g.positive g.negative) n)
  -- the list of controls has as many, and decides whether the gate fires
  pub controls_count : (g : Gate) → valid max_lines g ≡ true → length (controls_of g) ≡ control_count g
  pub controls_fire : (g : Gate) (s : ℕ) → valid max_lines g ≡ true → fires g s ≡ all_met s (controls_of g)

pub record WordsLaws : Type 0 where
  -- gates come back from their words, and words from their gates
  pub gates_words : (gs : List Gate) → gates_of (words_of gs) ≡ gs
  pub words_gates : (ws : List ℕ) → length ws % 3 ≡ 0 → words_of (gates_of ws) ≡ ws
  -- the tests serve exactly the cascades, and refuse exactly by what is wrong
  pub check_served : (n : ℕ) (ws : List ℕ) (limit k : ℕ) → (check_outcome n ws limit ≡ served k) ↔ Cascade n ws limit k
  pub check_refused : (n : ℕ) (ws : List ℕ) (limit number place : ℕ) → (check_outcome n ws limit ≡ refused number place) ↔ WordsRefused n ws limit number place
  pub pair_served : (na : ℕ) (a : List ℕ) (nb : ℕ) (b : List ℕ) (c : Counts)
      → (pair_outcome na a nb b ≡ served c) ↔ GoodPair na a nb b c
  pub pair_refused : (na : ℕ) (a : List ℕ) (nb : ℕ) (b : List ℕ) (number place : ℕ)
      → (pair_outcome na a nb b ≡ refused number place) ↔ PairRefused na a nb b number place

-- what is wrong with a run: with the words, or 9 for a cascade and a state of 2 ^ n or more
abbrev pub RunRefused : ℕ → List ℕ → ℕ → ℕ → ℕ → Type 0
RunRefused n ws s = Wrong (WordsRefused n ws max_gates) (Cascade n ws max_gates) (λ k. Fails (2 ^ n ≤ s) bad_state 0)

-- what is wrong with the call of the inverse: with the words, or 10 for a cascade and a buffer of fewer words than it has
abbrev pub InverseRefused : ℕ → List ℕ → ℕ → ℕ → ℕ → Type 0
InverseRefused n ws room = Wrong (WordsRefused n ws max_gates) (Cascade n ws max_gates) (λ k. Fails (room < length ws) no_room 0)

-- what stands in the buffer after a served call of the inverse of k gates: the gates in reverse order, a cascade whose own inverse is the words given, in any buffer with room; and the rest as it was
pub record InverseStands (n : ℕ) (ws out : List ℕ) (k : ℕ) : Type 0 where
  pub gates : gates_of (take (3 * k) (inverse_buffer n ws out)) ≡ reverse (gates_of ws)
  pub cascade : Cascade n (take (3 * k) (inverse_buffer n ws out)) max_gates k
  pub rest : drop (3 * k) (inverse_buffer n ws out) ≡ drop (3 * k) out
  pub back : (into : List ℕ) → length ws ≤ length into
      → Yields (inverse_outcome n (take (3 * k) (inverse_buffer n ws out)) (length into)) (inverse_buffer n (take (3 * k) (inverse_buffer n ws out)) into)
      (served k) (over ws into)

pub record CascadeLaws : Type 0 where
  -- a run of two cascades in a row, and its bound
  pub run_append : (a b : List Gate) (s : ℕ) → run (a ++ b) s ≡ run b (run a s)
  pub run_below : (n : ℕ) (gs : List Gate) → all_valid n gs ≡ true → (s : ℕ) → s < 2 ^ n → run gs s < 2 ^ n
  -- of gates that were tested
  pub tested_run : (gs : List Gate) → all_valid max_lines gs ≡ true → (s : ℕ) → run_tested gs s ≡ run gs s
  -- a run is served exactly for a cascade and a state, with the output; and refused exactly by what is wrong
  pub run_served : (n : ℕ) (ws : List ℕ) (s t : ℕ) → (run_outcome n ws s ≡ served t) ↔ ((k : ℕ) × (Cascade n ws max_gates k) × (s < 2 ^ n) × (t ≡ run (gates_of ws) s))
  pub run_refused : (n : ℕ) (ws : List ℕ) (s number place : ℕ) → (run_outcome n ws s ≡ refused number place) ↔ RunRefused n ws s number place
  -- the same of a run over gate records, which has the outcome of the run on their words
  pub records_served : (n : ℕ) (gs : List Gate) (s t : ℕ) → (records_outcome n gs s ≡ served t) ↔ ((Cascade n (words_of gs) max_gates (length gs)) × (s < 2 ^ n) × (t ≡ run gs s))
  pub records_refused : (n : ℕ) (gs : List Gate) (s number place : ℕ) → (records_outcome n gs s ≡ refused number place) ↔ RunRefused n (words_of gs) s number place
  pub records_words : (n : ℕ) (gs : List Gate) (s : ℕ) → records_outcome n gs s ≡ run_outcome n (words_of gs) s
  -- the call of the inverse is served exactly for a cascade and a buffer with room, refused exactly by what is wrong, and then leaves its buffer as it was
  pub inverse_served : (n : ℕ) (ws : List ℕ) (room k : ℕ) → (inverse_outcome n ws room ≡ served k) ↔ ((Cascade n ws max_gates k) × (length ws ≤ room))
  pub inverse_stands : (n : ℕ) (ws out : List ℕ) (k : ℕ) → inverse_outcome n ws (length out) ≡ served k → InverseStands n ws out k
  pub inverse_untouched : (n : ℕ) (ws out : List ℕ) → Untouched (inverse_outcome n ws (length out)) out (inverse_buffer n ws out)
  pub inverse_refused : (n : ℕ) (ws : List ℕ) (room number place : ℕ) → (inverse_outcome n ws room ≡ refused number place) ↔ InverseRefused n ws room number place
  -- the inverse undoes the run, both ways
  pub run_inverse : (gs : List Gate) (s : ℕ) → run (inverse gs) (run gs s) ≡ s
  pub inverse_run : (gs : List Gate) (s : ℕ) → run gs (run (inverse gs) s) ≡ s
  pub inverse_append : (a b : List Gate) → inverse (a ++ b) ≡ inverse b ++ inverse a
  pub inverse_twice : (gs : List Gate) → inverse (inverse gs) ≡ gs
  pub inverse_valid : (n : ℕ) (gs : List Gate) → all_valid n gs ≡ true → all_valid n (inverse gs) ≡ true
  -- two cascades are equal exactly when they differ on no state
  pub equal_differs : (n : ℕ) (a b : List Gate) → Equal n a b ↔ ((x : ℕ) → Differs n a b x → ⊥)

pub record HeaderLaws : Type 0 where
  -- the tests by whole masks are those by lines
  pub marks_lines : (h : Header) → (marks_good h ≡ true) ↔ MarksByLines h
  pub permits_lines : (h : Header) (x : ℕ) → marks_good h ≡ true → (permits h x ≡ true) ↔ Permitted h x
  pub alike_lines : (h : Header) (s t : ℕ) → s < 2 ^ h.lines → t < 2 ^ h.lines → (alike h s t ≡ true) ↔ ((k : ℕ) → LineCounts h k → bit s k ≡ bit t k)
  -- the tests of a caller's header and words serve exactly the cascades with good marks, and refuse exactly by what is wrong
  pub headed_served : (h : Header) (ws : List ℕ) (limit k : ℕ) → (headed_outcome h ws limit ≡ served k) ↔ Headed h ws limit k
  pub headed_refused : (h : Header) (ws : List ℕ) (limit number place : ℕ) → (headed_outcome h ws limit ≡ refused number place) ↔ HeadedRefused h ws limit number place
  pub pair_served : (ha : Header) (a : List ℕ) (hb : Header) (b : List ℕ) (c : Counts) → (headed_pair_outcome ha a hb b ≡ served c) ↔ HeadedPair ha a hb b c
  pub pair_refused : (ha : Header) (a : List ℕ) (hb : Header) (b : List ℕ) (number place : ℕ)
      → (headed_pair_outcome ha a hb b ≡ refused number place) ↔ HeadedPairRefused ha a hb b number place
  -- two cascades are equal exactly when they differ on no state
  pub equal_differs : (h : Header) (a b : List Gate) → EqualFor h a b ↔ ((x : ℕ) → DiffersFor h a b x → ⊥)
  -- a header without marks has no other form, and with it tests, equality and difference are those of document 01
  pub unmarked_good : (n : ℕ) → marks_good (unmarked n) ≡ true
  pub unmarked_only : (h : Header) → marks_good h ≡ true → marked h ≡ false → h ≡ unmarked h.lines
  pub unmarked_outcome : (n : ℕ) (ws : List ℕ) (limit : ℕ) → headed_outcome (unmarked n) ws limit ≡ check_outcome n ws limit
  pub unmarked_pair : (na : ℕ) (a : List ℕ) (nb : ℕ) (b : List ℕ) → headed_pair_outcome (unmarked na) a (unmarked nb) b ≡ pair_outcome na a nb b
  pub unmarked_permitted : (n x : ℕ) → Permitted (unmarked n) x ↔ (x < 2 ^ n)
  pub unmarked_counts : (n k : ℕ) → LineCounts (unmarked n) k ↔ (k < n)
  pub unmarked_equal : (n : ℕ) (a b : List Gate) → all_valid n a ≡ true → all_valid n b ≡ true → EqualFor (unmarked n) a b ↔ Equal n a b
  pub unmarked_differs : (n : ℕ) (a b : List Gate) → all_valid n a ≡ true → all_valid n b ≡ true → (x : ℕ) → DiffersFor (unmarked n) a b x ↔ Differs n a b x

pub record CircuitLaws : Type 0 where
  pub gate : GateLaws
  pub words : WordsLaws
  pub headers : HeaderLaws
  pub cascades : CascadeLaws
  pub file : FileLaws
