-- The laws of the tests of a caller's words: of each gate, of a cascade, and of two. Assumes nothing.
use Rattle.std.proofs.Common.{◌≡◌, ℕ, zero, suc, ◌+◌, ◌*◌, ◌/◌, ◌%◌, ◌<◌, ◌≤◌, Bool, true, false, eqb, leb, ◌↔◌, List, [], ◌∷◌, length, get_or, take, drop, sym, refl, ap, ◌∙◌, subst, subst₂, arith, eq-eqb, ne_eqb, eqb-true, le-leb, leb-false, leb-true}
use borrow.Author.Tests.{lt-leb, eqb-false}
use Rattle.bits.proofs.Bools.{either, and_parts, both, not_held, refuted}
use Rattle.circuit.specs.declared.gate.Gate.{Gate}
use Rattle.circuit.specs.Gate.{max_lines, max_gates, not_gate, valid}
use Rattle.circuit.specs.Outcome.{Outcome, served, refused, demand, and_then, Wrong, Fails}
use Rattle.circuit.specs.Refusal.{bad_line_count, too_many_gates, no_gate, line_counts_differ, bad_word_count}
use Rattle.circuit.specs.Words.{gates_of, gate_at, words_of, all_valid, line_count_good, valid_from, size_outcome, gates_outcome, check_outcome, pair_outcome, Cascade, WordsRefused, lines, thirds, many, gate, GoodPair, PairRefused}
use Rattle.circuit.specs.declared.words.Counts.{Counts}
use Rattle.circuit.proofs.lemmas.Outcome.{never, unserved, demand_met, demand_failed, demanded, then_served, then_refused, then_both, wrong_refused, fails_refused, unequal}
use Rattle.circuit.proofs.lemmas.words.Gates.{gates_length, gates_next, gates_end, words_length, gates_words, words_gates}

-- ---- the test of each gate

pub from_good : (n i : ℕ) (g : Gate) (gs : List Gate) → valid n g ≡ true → valid_from n i (g ∷ gs) ≡ valid_from n (i + 1) gs
unfolding valid_from
from_good n i g gs e = demand_met _ _ _ _ e

pub from_bad : (n i : ℕ) (g : Gate) (gs : List Gate) → valid n g ≡ false → valid_from n i (g ∷ gs) ≡ refused no_gate i
unfolding valid_from
from_bad n i g gs e = demand_failed _ _ _ _ e

-- the same of words: gate i, and the words after it
module _ (n : ℕ) (ws : List ℕ) (i : ℕ) (g : Gate) (inside : i < length ws / 3) (is : g ≡ gate_at ws i) where
  pub next_good : valid n g ≡ true → valid_from n i (gates_of (drop (3 * i) ws)) ≡ valid_from n (i + 1) (gates_of (drop (3 * (i + 1)) ws))
  next_good e = ap (valid_from n i) (gates_next ws i inside) ∙ from_good n i _ _ (ap (valid n) (sym is) ∙ e)

  pub next_bad : valid n g ≡ false → valid_from n i (gates_of (drop (3 * i) ws)) ≡ refused no_gate i
  next_bad e = ap (valid_from n i) (gates_next ws i inside) ∙ from_bad n i _ _ (ap (valid n) (sym is) ∙ e)

pub none_left : (n : ℕ) (ws : List ℕ) (i : ℕ) → length ws / 3 ≤ i → valid_from n i (gates_of (drop (3 * i) ws)) ≡ served i
unfolding valid_from
none_left n ws i h = ap (valid_from n i) (gates_end ws i h)

-- ---- what a served test says

pub from_served : (n i : ℕ) (gs : List Gate) (k : ℕ) → valid_from n i gs ≡ served k → (all_valid n gs ≡ true) × (k ≡ i + length gs)
unfolding valid_from all_valid
from_served n i [] k e = let q : i ≡ k = cc in (refl, omega arith)
from_served n i (g ∷ gs) k e =
    let (v, f) = demanded (valid n g) no_gate i (valid_from n (i + 1) gs) k e in
    let (w, s) = from_served n (i + 1) gs k f in
    (both v w, omega arith)

pub served_from : (n i : ℕ) (gs : List Gate) → all_valid n gs ≡ true → valid_from n i gs ≡ served (i + length gs)
unfolding valid_from all_valid
served_from n i [] v = let e : i ≡ i + 0 = omega arith in ap served e
served_from n i (g ∷ gs) v =
    let (a, b) = and_parts (valid n g) (all_valid n gs) v in
    let e : i + 1 + length gs ≡ i + suc (length gs) = omega arith in
    from_good n i g gs a ∙ served_from n (i + 1) gs b ∙ ap served e

-- the first gate that is not valid
pub from_refused : (n i : ℕ) (gs : List Gate) (number place : ℕ) → valid_from n i gs ≡ refused number place
    → (number ≡ no_gate) × (j : ℕ) × (place ≡ i + j) × (j < length gs) × (all_valid n (take j gs) ≡ true) × (valid n (get_or gs j (not_gate 0)) ≡ false)
unfolding valid_from all_valid
from_refused n i [] number place e = absurd (never refl e)
from_refused n i (g ∷ gs) number place e =
    either (valid n g)
    (λ v.
    let (a, j, b, l, w, f) = from_refused n (i + 1) gs number place (sym (from_good n i g gs v) ∙ e) in
    (a, suc j, omega arith, omega arith, both v w, f))
    (λ v.
    let f : refused no_gate i ≡ refused number place = sym (from_bad n i g gs v) ∙ e in
    let a : number ≡ no_gate = cc in
    let b : place ≡ i = cc in
    (a, zero, omega arith, omega arith, refl, v))

pub refused_from : (n i : ℕ) (gs : List Gate) (j : ℕ) → j < length gs → all_valid n (take j gs) ≡ true → valid n (get_or gs j (not_gate 0)) ≡ false
    → valid_from n i gs ≡ refused no_gate (i + j)
unfolding valid_from all_valid
refused_from n i [] j l w f = absurd (omega arith)
refused_from n i (g ∷ gs) zero l w f = let e : i ≡ i + zero = omega arith in from_bad n i g gs f ∙ ap (refused no_gate) e
refused_from n i (g ∷ gs) (suc j) l w f =
    let (a, b) = and_parts (valid n g) (all_valid n (take j gs)) w in
    let e : i + 1 + j ≡ i + suc j = omega arith in
    from_good n i g gs a ∙ refused_from n (i + 1) gs j (omega arith) b f ∙ ap (refused no_gate) e

-- ---- the cases of the tests

pub lines_good : (n : ℕ) → line_count_good n ≡ true → (1 ≤ n) × (n ≤ max_lines)
lines_good n e = let (a, b) = and_parts (leb 1 n) (leb n max_lines) e in (leb-true 1 n a, leb-true n max_lines b)

pub good_lines : (n : ℕ) → 1 ≤ n → n ≤ max_lines → line_count_good n ≡ true
good_lines n a b = both (le-leb 1 n a) (le-leb n max_lines b)

module _ (n : ℕ) (ws : List ℕ) (limit : ℕ) where
  pub size_uneven : (length ws % 3 ≡ 0 → ⊥) → size_outcome ws limit ≡ refused bad_word_count 0
  unfolding size_outcome
  size_uneven h = demand_failed _ _ _ _ (ne_eqb _ _ h)

  pub size_many : length ws % 3 ≡ 0 → limit < length ws / 3 → size_outcome ws limit ≡ refused too_many_gates 0
  unfolding size_outcome
  size_many e h = demand_met _ _ _ _ (eq-eqb _ _ e) ∙ demand_failed _ _ _ _ (lt-leb _ _ h)

  pub size_good : length ws % 3 ≡ 0 → length ws / 3 ≤ limit → size_outcome ws limit ≡ served (length ws / 3)
  unfolding size_outcome
  size_good e h = demand_met _ _ _ _ (eq-eqb _ _ e) ∙ demand_met _ _ _ _ (le-leb _ _ h)

  -- what a served size says
  pub size_served : (k : ℕ) → size_outcome ws limit ≡ served k → (length ws % 3 ≡ 0) × (length ws / 3 ≤ limit)
  unfolding size_outcome
  size_served k e =
      let (b, g) = demanded (eqb (length ws % 3) 0) bad_word_count 0 _ k e in
      let (d, h) = demanded (leb (length ws / 3) limit) too_many_gates 0 _ k g in
      (eqb-true _ _ b, leb-true _ _ d)

  pub gates_refused : (number place : ℕ) → size_outcome ws limit ≡ refused number place → gates_outcome n ws limit ≡ refused number place
  unfolding gates_outcome
  gates_refused number place e = then_refused _ _ number place e

  pub gates_sized : (k : ℕ) → size_outcome ws limit ≡ served k → gates_outcome n ws limit ≡ valid_from n 0 (gates_of ws)
  unfolding gates_outcome
  gates_sized k e = then_served _ _ k e

  pub check_lines : line_count_good n ≡ false → check_outcome n ws limit ≡ refused bad_line_count 0
  unfolding check_outcome
  check_lines e = demand_failed _ _ _ _ e

  pub check_gates : line_count_good n ≡ true → check_outcome n ws limit ≡ gates_outcome n ws limit
  unfolding check_outcome
  check_gates e = demand_met _ _ _ _ e

  -- served exactly for a cascade
  pub check_served : (k : ℕ) → check_outcome n ws limit ≡ served k → Cascade n ws limit k
  unfolding check_outcome gates_outcome
  check_served k e =
      let (a, f) = demanded (line_count_good n) bad_line_count 0 (gates_outcome n ws limit) k e in
      let (m, g, h) = then_both (size_outcome ws limit) _ k f in
      let (t, l) = size_served m g in
      let (v, s) = from_served n 0 (gates_of ws) k h in
      let c = gates_length ws in
      record { lines_low = (lines_good n a).0; lines_high = (lines_good n a).1; size = omega arith; few = omega arith; gates = v }

  pub served_check : (k : ℕ) → Cascade n ws limit k → check_outcome n ws limit ≡ served k
  served_check k c =
      let z = c.size in
      let f = c.few in
      let e : 0 + length (gates_of ws) ≡ k = omega (arith, gates_length ws) in
      check_gates (good_lines n c.lines_low c.lines_high)
      ∙ gates_sized (length ws / 3) (size_good (omega arith) (omega arith))
      ∙ served_from n 0 (gates_of ws) c.gates
      ∙ ap served e

  -- refused exactly for what is wrong
  pub check_refused : (number place : ℕ) → check_outcome n ws limit ≡ refused number place → WordsRefused n ws limit number place
  check_refused number place e =
      either (line_count_good n)
      (λ a. let (low, high) = lines_good n a in
      either (eqb (length ws % 3) 0)
      (λ b. let t : length ws % 3 ≡ 0 = eqb-true _ _ b in
      either (leb (length ws / 3) limit)
      (λ d. let l : length ws / 3 ≤ limit = leb-true _ _ d in first low high t l (from_refused n 0 (gates_of ws) number place (sym (check_gates a ∙ gates_sized (length ws / 3) (size_good t l)) ∙ e)))
      (λ d. let l : limit < length ws / 3 = leb-false _ _ d in is too_many_gates 0 (sym (check_gates a ∙ gates_refused too_many_gates 0 (size_many t l)) ∙ e) (many low high t l)))
      (λ b. is bad_word_count 0 (sym (check_gates a ∙ gates_refused bad_word_count 0 (size_uneven (eqb-false _ _ b))) ∙ e) (thirds low high (eqb-false _ _ b))))
      (λ a. is bad_line_count 0 (sym (check_lines a) ∙ e) (lines (λ low high. refuted a (good_lines n low high))))
    where
      is : (x y : ℕ) → ◌≡◌ {A = Outcome ℕ} (refused x y) (refused number place) → WordsRefused n ws limit x y → WordsRefused n ws limit number place
      is x y f w = let p : x ≡ number = cc in let q : y ≡ place = cc in subst₂ (WordsRefused n ws limit) p q w

      first : 1 ≤ n → n ≤ max_lines → length ws % 3 ≡ 0 → length ws / 3 ≤ limit
          → (number ≡ no_gate) × (j : ℕ) × (place ≡ 0 + j) × (j < length (gates_of ws)) × (all_valid n (take j (gates_of ws)) ≡ true) × (valid n (get_or (gates_of ws) j (not_gate 0)) ≡ false)
          → WordsRefused n ws limit number place
      first low high t l (a, j, b, h, w, f) =
          let p : j ≡ place = omega arith in
          subst₂ (WordsRefused n ws limit) (sym a) p (gate low high t l j (omega (arith, gates_length ws)) w f)

  pub refused_check : (number place : ℕ) → WordsRefused n ws limit number place → check_outcome n ws limit ≡ refused number place
  refused_check number place (lines h) = check_lines (not_held _ (λ e. let (a, b) = lines_good n e in h a b))
  refused_check number place (thirds low high h) = check_gates (good_lines n low high) ∙ gates_refused bad_word_count 0 (size_uneven h)
  refused_check number place (many low high t l) = check_gates (good_lines n low high) ∙ gates_refused too_many_gates 0 (size_many t l)
  refused_check number place (gate low high t l j h w f) =
      check_gates (good_lines n low high) ∙ gates_sized (length ws / 3) (size_good t l) ∙ refused_from n 0 (gates_of ws) j (omega (arith, gates_length ws)) w f
      ∙ ap (refused no_gate) (omega arith)

-- a call that tests the words and then one thing more
pub words_wrong : (n : ℕ) (ws : List ℕ) (limit : ℕ) {B : Type 0} (test : Bool) (number place : ℕ) (value : ℕ → B) (Bad : Type 0) → (test ≡ false) ↔ Bad
    → (x y : ℕ) → (and_then (check_outcome n ws limit) (λ k. demand test number place (served (value k))) ≡ refused x y)
    ↔ Wrong (WordsRefused n ws limit) (Cascade n ws limit) (λ k. Fails Bad number place) x y
words_wrong n ws limit test number place value Bad is =
    wrong_refused (check_outcome n ws limit) _ _ _ _ (λ x y. (check_refused n ws limit x y, refused_check n ws limit x y))
    (λ k. (check_served n ws limit k, served_check n ws limit k)) (λ k c. fails_refused test number place (value k) Bad is)

-- gates on n lines, and their words
pub words_cascade : (n : ℕ) (gs : List Gate) (limit : ℕ) → 1 ≤ n → n ≤ max_lines → length gs ≤ limit → all_valid n gs ≡ true → Cascade n (words_of gs) limit (length gs)
words_cascade n gs limit low high few v =
    record { lines_low = low; lines_high = high; size = words_length gs; few = few; gates = ap (all_valid n) (gates_words gs) ∙ v }

pub cascade_count : (n : ℕ) (ws : List ℕ) (limit k : ℕ) → Cascade n ws limit k → length (gates_of ws) ≡ k
cascade_count n ws limit k c = let z = c.size in omega (arith, gates_length ws)

pub cascade_words : (n : ℕ) (ws : List ℕ) (limit k : ℕ) → Cascade n ws limit k → words_of (gates_of ws) ≡ ws
cascade_words n ws limit k c = let z = c.size in words_gates ws (omega arith)

-- ---- two cascades

module _ (na : ℕ) (a : List ℕ) (nb : ℕ) (b : List ℕ) where
  pub pair_first : (number place : ℕ) → check_outcome na a max_gates ≡ refused number place → pair_outcome na a nb b ≡ refused number place
  unfolding pair_outcome
  pair_first number place e = then_refused _ _ number place e

  module _ (k : ℕ) (first : check_outcome na a max_gates ≡ served k) where
    pub pair_second : (number place : ℕ) → check_outcome nb b max_gates ≡ refused number place → pair_outcome na a nb b ≡ refused number place
    unfolding pair_outcome
    pair_second number place e = then_served _ _ k first ∙ then_refused _ _ number place e

    module _ (m : ℕ) (second : check_outcome nb b max_gates ≡ served m) where
      pub pair_differ : (na ≡ nb → ⊥) → pair_outcome na a nb b ≡ refused line_counts_differ 0
      unfolding pair_outcome
      pair_differ h = then_served _ _ k first ∙ then_served _ _ m second ∙ demand_failed _ _ _ _ (ne_eqb na nb h)

      pub pair_good : na ≡ nb → pair_outcome na a nb b ≡ served (record { first = k; second = m })
      unfolding pair_outcome
      pair_good h = then_served _ _ k first ∙ then_served _ _ m second ∙ demand_met _ _ _ _ (eq-eqb na nb h)

pub pair_served : (na : ℕ) (a : List ℕ) (nb : ℕ) (b : List ℕ) (c : Counts) → pair_outcome na a nb b ≡ served c → GoodPair na a nb b c
unfolding pair_outcome
pair_served na a nb b c e =
    let (k, p, f) = then_both (check_outcome na a max_gates) _ c e in
    let (m, q, g) = then_both (check_outcome nb b max_gates) _ c f in
    let (t, h) = demanded (eqb na nb) line_counts_differ 0 _ c g in
    let d : record { first = k; second = m } ≡ c = unserved h in
    subst (GoodPair na a nb b) d (record { first_good = check_served na a max_gates k p; second_good = check_served nb b max_gates m q; lines = eqb-true na nb t })

pub served_pair : (na : ℕ) (a : List ℕ) (nb : ℕ) (b : List ℕ) (c : Counts) → GoodPair na a nb b c → pair_outcome na a nb b ≡ served c
served_pair na a nb b c g =
    pair_good na a nb b c.first (served_check na a max_gates c.first g.first_good) c.second (served_check nb b max_gates c.second g.second_good) g.lines

pub pair_refused : (na : ℕ) (a : List ℕ) (nb : ℕ) (b : List ℕ) (number place : ℕ) → (pair_outcome na a nb b ≡ refused number place) ↔ PairRefused na a nb b number place
unfolding pair_outcome
pair_refused na a nb b =
    wrong_refused (check_outcome na a max_gates) _ _ _ _ (λ x y. (check_refused na a max_gates x y, refused_check na a max_gates x y))
    (λ k. (check_served na a max_gates k, served_check na a max_gates k)) (λ k c.
    words_wrong nb b max_gates (eqb na nb) line_counts_differ 0 (λ m. record { first = k; second = m }) (na ≡ nb → ⊥) (unequal na nb))

-- a call that tests two cascades and then one thing more
pub pair_wrong : (na : ℕ) (a : List ℕ) (nb : ℕ) (b : List ℕ) {B : Type 0} (test : Bool) (number place : ℕ) (value : Counts → B) (Bad : Type 0) → (test ≡ false) ↔ Bad
    → (x y : ℕ) → (and_then (pair_outcome na a nb b) (λ c. demand test number place (served (value c))) ≡ refused x y)
    ↔ Wrong (PairRefused na a nb b) (GoodPair na a nb b) (λ c. Fails Bad number place) x y
pair_wrong na a nb b test number place value Bad is =
    wrong_refused (pair_outcome na a nb b) _ _ _ _ (pair_refused na a nb b) (λ c. (pair_served na a nb b c, served_pair na a nb b c))
    (λ c g. fails_refused test number place (value c) Bad is)
