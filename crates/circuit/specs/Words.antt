-- A cascade in memory: three words a gate, and what is wrong with words that are none.
use Rattle.std.specs.Prelude.{◌≡◌, ℕ, ◌+◌, ◌*◌, ◌/◌, ◌%◌, ◌<◌, ◌≤◌, Bool, true, false, cond, ◌&&◌, List, [], ◌∷◌, ◌++◌, length, take, ◌==◌, ◌≢◌, nat_le, slice_index_or}
use Rattle.bits.specs.Lists.{over}
use Rattle.circuit.specs.declared.gate.Gate.{Gate}
use Rattle.circuit.specs.declared.words.Counts.{Counts}
use Rattle.circuit.specs.Gate.{max_lines, max_gates, not_gate, valid}
use Rattle.circuit.specs.declared.header.Header.{Header}
use Rattle.circuit.specs.Header.{marks_good, same_marks, MarksByLines}
use Rattle.circuit.specs.Outcome.{Outcome, served, demand, and_then, Wrong, Fails}
use Rattle.circuit.specs.Refusal.{bad_line_count, too_many_gates, no_gate, line_counts_differ, bad_word_count, bad_mark, marks_differ}

-- the gates, first to last
unfoldable pub gates_of : List ℕ → List Gate
gates_of [] = []
gates_of (p ∷ []) = []
gates_of (p ∷ q ∷ []) = []
gates_of (p ∷ q ∷ t ∷ ws) = record { positive = p; negative = q; target = t } ∷ gates_of ws

-- gate i; three zero words where there is none
abbrev pub gate_in : List Gate → ℕ → Gate
gate_in gs i = slice_index_or gs i (not_gate 0)

abbrev pub gate_at : List ℕ → ℕ → Gate
gate_at ws i = gate_in (gates_of ws) i

-- the words of a gate, and of gates
abbrev pub gate_words : Gate → List ℕ
gate_words g = g.positive ∷ g.negative ∷ g.target ∷ []

unfoldable pub words_of : List Gate → List ℕ
words_of [] = []
words_of (g ∷ gs) = gate_words g ++ words_of gs

-- a buffer with a gate's words at its start; the same one where they do not fit
abbrev pub put_gate : Gate → List ℕ → List ℕ
put_gate g out = cond (nat_le 3 (length out)) (over (gate_words g) out) out

-- every gate is valid on n lines
unfoldable pub all_valid : ℕ → List Gate → Bool
all_valid n [] = true
all_valid n (g ∷ gs) = valid n g && all_valid n gs

-- a cascade has 1 to 64 lines
abbrev pub line_count_good : ℕ → Bool
line_count_good n = nat_le 1 n && nat_le n max_lines

-- the number of gates; 7 at the first that is not valid on n lines; i is the index of the list's first
unfoldable pub valid_from : ℕ → ℕ → List Gate → Outcome ℕ
valid_from n i [] = served i
valid_from n i (g ∷ gs) = demand (valid n g) no_gate i (valid_from n (i + 1) gs)

-- the number of gates by the number of words: 11, 6
unfoldable pub size_outcome : List ℕ → ℕ → Outcome ℕ
size_outcome ws limit =
    demand (length ws % 3 == 0) bad_word_count 0
    (demand (nat_le (length ws / 3) limit) too_many_gates 0 (served (length ws / 3)))

-- 11, 6, 7
unfoldable pub gates_outcome : ℕ → List ℕ → ℕ → Outcome ℕ
gates_outcome n ws limit = and_then (size_outcome ws limit) (λ k. valid_from n 0 (gates_of ws))

-- 2, 11, 6, 7
unfoldable pub check_outcome : ℕ → List ℕ → ℕ → Outcome ℕ
check_outcome n ws limit = demand (line_count_good n) bad_line_count 0 (gates_outcome n ws limit)

-- the words of a cascade on n lines of k gates, at most `limit`
pub record Cascade (n : ℕ) (ws : List ℕ) (limit k : ℕ) : Type 0 where
  pub lines_low : 1 ≤ n
  pub lines_high : n ≤ max_lines
  pub size : length ws ≡ 3 * k
  pub few : k ≤ limit
  pub gates : all_valid n (gates_of ws) ≡ true

-- what is wrong with a caller's words, by number and place, where nothing of an earlier number is
pub data WordsRefused (n : ℕ) (ws : List ℕ) (limit : ℕ) : ℕ → ℕ → Type 0 where
  lines : (1 ≤ n → n ≤ max_lines → ⊥) → WordsRefused n ws limit bad_line_count 0
  thirds : 1 ≤ n → n ≤ max_lines → (length ws % 3 ≢ 0) → WordsRefused n ws limit bad_word_count 0
  many : 1 ≤ n → n ≤ max_lines → length ws % 3 ≡ 0 → limit < length ws / 3 → WordsRefused n ws limit too_many_gates 0
  gate : 1 ≤ n → n ≤ max_lines → length ws % 3 ≡ 0 → length ws / 3 ≤ limit
      → (i : ℕ) → i < length ws / 3 → all_valid n (take i (gates_of ws)) ≡ true → valid n (gate_at ws i) ≡ false → WordsRefused n ws limit no_gate i

-- 2, 11, 6, 7 for the first cascade, the same for the second, 8
unfoldable pub pair_outcome : ℕ → List ℕ → ℕ → List ℕ → Outcome Counts
pair_outcome na a nb b =
    and_then (check_outcome na a max_gates) (λ k.
    and_then (check_outcome nb b max_gates) (λ m.
    demand (na == nb) line_counts_differ 0 (served (record { first = k; second = m }))))

-- two cascades on as many lines, with their numbers of gates
pub record GoodPair (na : ℕ) (a : List ℕ) (nb : ℕ) (b : List ℕ) (c : Counts) : Type 0 where
  pub first_good : Cascade na a max_gates c.first
  pub second_good : Cascade nb b max_gates c.second
  pub lines : na ≡ nb

-- what is wrong with two cascades: with the first, with the second where the first is good, or 8 where both are
abbrev pub PairRefused : ℕ → List ℕ → ℕ → List ℕ → ℕ → ℕ → Type 0
PairRefused na a nb b =
    Wrong (WordsRefused na a max_gates) (Cascade na a max_gates) (λ k.
    Wrong (WordsRefused nb b max_gates) (Cascade nb b max_gates) (λ m. Fails (na ≢ nb) line_counts_differ 0))

-- ---- cascades with marks

-- 2, 14, 11, 6, 7
unfoldable pub headed_outcome : Header → List ℕ → ℕ → Outcome ℕ
headed_outcome h ws limit =
    demand (line_count_good h.lines) bad_line_count 0 (demand (marks_good h) bad_mark 0 (gates_outcome h.lines ws limit))

-- the words of a cascade with this header, of k gates
pub record Headed (h : Header) (ws : List ℕ) (limit k : ℕ) : Type 0 where
  pub marks : marks_good h ≡ true
  pub cascade : Cascade h.lines ws limit k

-- what is wrong with a caller's header and words
pub data HeadedRefused (h : Header) (ws : List ℕ) (limit : ℕ) : ℕ → ℕ → Type 0 where
  bad_lines : (1 ≤ h.lines → h.lines ≤ max_lines → ⊥) → HeadedRefused h ws limit bad_line_count 0
  bad_marks : 1 ≤ h.lines → h.lines ≤ max_lines → (MarksByLines h → ⊥) → HeadedRefused h ws limit bad_mark 0
  bad_words : MarksByLines h → (number place : ℕ) → 1 ≤ h.lines → h.lines ≤ max_lines → WordsRefused h.lines ws limit number place → HeadedRefused h ws limit number place

-- 2, 14, 11, 6, 7 for the first cascade, the same for the second, 8, 15
unfoldable pub headed_pair_outcome : Header → List ℕ → Header → List ℕ → Outcome Counts
headed_pair_outcome ha a hb b =
    and_then (headed_outcome ha a max_gates) (λ k.
    and_then (headed_outcome hb b max_gates) (λ m.
    demand (ha.lines == hb.lines) line_counts_differ 0
    (demand (same_marks ha hb) marks_differ 0 (served (record { first = k; second = m })))))

-- two cascades with the same header, with their numbers of gates
pub record HeadedPair (ha : Header) (a : List ℕ) (hb : Header) (b : List ℕ) (c : Counts) : Type 0 where
  pub first_good : Headed ha a max_gates c.first
  pub second_good : Headed hb b max_gates c.second
  pub header : ha ≡ hb

-- what two good cascades may not differ in
pub data HeadersDiffer (ha hb : Header) : ℕ → ℕ → Type 0 where
  other_lines : (ha.lines ≢ hb.lines) → HeadersDiffer ha hb line_counts_differ 0
  other_marks : ha.lines ≡ hb.lines → (ha ≢ hb) → HeadersDiffer ha hb marks_differ 0

-- what is wrong with two cascades: with the first, with the second where the first is good, or 8, or 15, where both are
abbrev pub HeadedPairRefused : Header → List ℕ → Header → List ℕ → ℕ → ℕ → Type 0
HeadedPairRefused ha a hb b =
    Wrong (HeadedRefused ha a max_gates) (Headed ha a max_gates) (λ k.
    Wrong (HeadedRefused hb b max_gates) (Headed hb b max_gates) (λ m. HeadersDiffer ha hb))
