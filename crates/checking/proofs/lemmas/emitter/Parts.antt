-- What the parts of the one-gate emitter write. Assumes nothing.
use Rattle.std.proofs.Common.{◌≡◌, ℕ, suc, ◌+◌, ◌-◌, ◌*◌, ◌^◌, ◌<◌, ◌≤◌, Bool, true, false, not, List, [], ◌∷◌, ◌++◌, map, length, take, drop, set, ℤ, pos, neg_ℤ, sym, refl, ap, ◌∙◌, ap₂, append_assoc, append-nil, add-one, arith, length-append, length-drop, length-set, take-append-drop, length-take-le}
use mathlib.Core.List.{map-append}
use lib.Bits.{bit_and, and_le_l}
use lib.Count.{count_trailing_zeros, ones-le}
use lib.IntN.{neg_ℤ-neg_ℤ}
use lib.ListN.{length-map}
use lib.Seq.{set-append_left, drop-length}
use borrow.Rule.Slice.PartMut.{put_mid, same_len_mid}
use Rattle.bits.specs.Digits.{bit, lines_in}
use Rattle.bits.specs.Lists.{over}
use Rattle.bits.proofs.Digits.{lines_ones}
use Rattle.bits.proofs.Lists.{over_push, over_length, rest_lent, lent_over}
use Rattle.bits.proofs.Lowest.{lowest_below, lines_on, lines_done}
use Rattle.circuit.specs.Gate.{max_lines}
use Rattle.checking.specs.Clauses.{Clause, OR, XOR, plus, minus, implied, many_clauses}
use Rattle.checking.specs.Stored.{stored, word_limit}
use Rattle.checking.specs.private.Emitter.{literal_word, literal_at, literals_in, controls_stored, by_line, Lines}
use Rattle.checking.proofs.lemmas.clauses.Reading.{stored_append}
use Rattle.checking.proofs.lemmas.clauses.Sums.{implied_words}

-- the lent rest of a buffer has the words that are left
pub lent_long : (xs : List ℤ) (at : ℕ) → length (take (length xs - at) (drop at xs)) ≡ length xs - at
lent_long xs at = ap length (rest_lent xs at) ∙ length-drop at xs

-- ---- the clauses OR (−p, c)

implied_append : (p : ℕ) (xs ys : List ℤ) → implied p (xs ++ ys) ≡ implied p xs ++ implied p ys
implied_append p [] ys = refl
implied_append p (x ∷ xs) ys = ap (λ (l : List Clause). OR (minus p ∷ x ∷ []) ∷ l) (implied_append p xs ys)

implied_more : (p : ℕ) (cs : List ℤ) (c : ℤ) → stored (implied p (cs ++ (c ∷ []))) ≡ stored (implied p cs) ++ (pos 0 ∷ pos 2 ∷ minus p ∷ c ∷ [])
unfolding stored
implied_more p cs c = ap stored (implied_append p cs (c ∷ [])) ∙ stored_append (implied p cs) (implied p (c ∷ []))

-- the word of −c
pub negated_word : (b : Bool) (v : ℕ) → literal_word (not b) v ≡ neg_ℤ (literal_word b v)
negated_word true v = refl
negated_word false v = sym (neg_ℤ-neg_ℤ (pos v))

-- ---- two stretches of a buffer, filled at once

-- every −c of the controls so far in the first k words, and every OR (−p, c) after those
abbrev pub filling : ℕ → ℕ → List ℤ → List ℤ → List ℤ
filling k p cs first = over (over (map neg_ℤ cs) (take k first) ++ stored (implied p cs)) first

module _ (k p : ℕ) (first : List ℤ) (room : 5 * k ≤ length first) where
  front_long : length (take k first) ≡ k
  front_long = length-take-le k first (omega arith)

  pub filling_none : first ≡ filling k p [] first
  unfolding stored
  filling_none =
      sym
      (ap (λ (l : List ℤ). l ++ drop (length l) first) (append-nil (take k first))
      ∙ ap (λ (m : ℕ). take k first ++ drop m first) front_long
      ∙ take-append-drop k first)

  pub filling_done : (cs : List ℤ) → length cs ≡ k → filling k p cs first ≡ over (controls_stored p cs) first
  filling_done cs e =
      let whole : over (map neg_ℤ cs) (take k first) ≡ map neg_ℤ cs =
      ap (λ (m : ℕ). map neg_ℤ cs ++ drop m (take k first)) (length-map cs neg_ℤ ∙ e ∙ sym front_long) ∙ ap (λ (l : List ℤ). map neg_ℤ cs ++ l) (drop-length (take k first)) ∙ append-nil (map neg_ℤ cs) in
      ap (λ (l : List ℤ). over (l ++ stored (implied p cs)) first) whole

  -- one control more
  module _ (cs : List ℤ) (i : ℕ) (count : length cs ≡ i) (inside : i < k) (c : ℤ) where
    abbrev negs : List ℤ → List ℤ
    negs l = over (map neg_ℤ l) (take k first)

    negs_long : (l : List ℤ) → length l ≤ k → length (negs l) ≡ k
    negs_long l h = over_length (map neg_ℤ l) (take k first) (omega (arith, length-map l neg_ℤ, front_long)) ∙ front_long

    neg_more : set (negs cs) i (neg_ℤ c) ≡ negs (cs ++ (c ∷ []))
    neg_more =
        over_push (map neg_ℤ cs) (take k first) (neg_ℤ c) i (length-map cs neg_ℤ ∙ count) (omega (arith, front_long))
        ∙ ap (λ (l : List ℤ). over l (take k first)) (sym (map-append neg_ℤ cs (c ∷ [])))

    one_long : length (cs ++ (c ∷ [])) ≡ i + 1
    one_long = length-append cs (c ∷ []) ∙ ap (λ (m : ℕ). m + 1) count

    -- −c is stored
    neg_stored : (out : List ℤ) → out ≡ filling k p cs first → set out i (neg_ℤ c) ≡ over (negs (cs ++ (c ∷ [])) ++ stored (implied p cs)) first
    neg_stored out e =
        let y : List ℤ = stored (implied p cs) in
        let a : length (negs cs) ≡ k = negs_long cs (omega arith) in
        let b : length (negs (cs ++ (c ∷ []))) ≡ k = negs_long (cs ++ (c ∷ [])) (omega (arith, one_long)) in
        let f : length (negs cs ++ y) ≡ length (negs (cs ++ (c ∷ [])) ++ y) =
        length-append (negs cs) y ∙ ap (λ (m : ℕ). m + length y) (a ∙ sym b) ∙ sym (length-append (negs (cs ++ (c ∷ []))) y) in
        ap (λ (o : List ℤ). set o i (neg_ℤ c)) e
        ∙ set-append_left (negs cs ++ y) (drop (length (negs cs ++ y)) first) i (neg_ℤ c) (omega (arith, length-append (negs cs) y))
        ∙ ap (λ (l : List ℤ). l ++ drop (length (negs cs ++ y)) first) (set-append_left (negs cs) y i (neg_ℤ c) (omega arith) ∙ ap (λ (l : List ℤ). l ++ y) neg_more)
        ∙ ap (λ (m : ℕ). (negs (cs ++ (c ∷ [])) ++ y) ++ drop m first) f

    -- and OR (−p, c), in the lent rest
    pub filling_more : (out last : List ℤ) (z : ℤ) → out ≡ filling k p cs first → length out ≡ length first → z ≡ neg_ℤ c
        → last ≡ over (pos 0 ∷ pos 2 ∷ minus p ∷ c ∷ []) (take (length (set out i z) - (k + 4 * i)) (drop (k + 4 * i) (set out i z)))
        → put_mid (k + 4 * i) (length (set out i z) - (k + 4 * i)) (set out i z) last ≡ filling k p (cs ++ (c ∷ [])) first
    filling_more out last z e long ez l =
        let y : List ℤ = stored (implied p cs) in
        let x : List ℤ = negs (cs ++ (c ∷ [])) in
        let f : length (x ++ y) ≡ k + 4 * i =
        length-append x y ∙ ap₂ ◌+◌ (negs_long (cs ++ (c ∷ [])) (omega (arith, one_long))) (implied_words p cs ∙ ap (λ (m : ℕ). 4 * m) count) in
        lent_over (x ++ y) (pos 0 ∷ pos 2 ∷ minus p ∷ c ∷ []) first (set out i z) last (k + 4 * i) (ap (set out i) ez ∙ neg_stored out e) f
        (omega (arith, length-set out i z)) l
        ∙ ap (λ (m : List ℤ). over m first) (append_assoc x y (pos 0 ∷ pos 2 ∷ minus p ∷ c ∷ []) ∙ ap (λ (m : List ℤ). x ++ m) (sym (implied_more p cs c)))

-- ---- the walk over the lines of a mask

-- those before i are done, and `left` has the others
pub record Walk (current : List ℕ) (positive lines k n p : ℕ) (first out : List ℤ) (left i : ℕ) : Type 0 where
  pub below : left < 2 ^ n
  pub passed : List ℕ
  pub all : lines_in lines n ≡ passed ++ lines_in left n
  pub count : length passed ≡ i
  pub long : length out ≡ length first
  pub buffer : out ≡ filling k p (map (literal_at current positive) passed) first

pub walk_start : (current : List ℕ) (positive lines k n p : ℕ) (first : List ℤ) → Lines lines k n → 5 * k ≤ length first
    → Walk current positive lines k n p first first lines 0
walk_start current positive lines k n p first h room =
    record { below = h.below; passed = []; all = refl; count = refl; long = refl; buffer = filling_none k p first room }

module _ (current : List ℕ) (positive lines k n p : ℕ) (first out : List ℤ) (left i : ℕ) (small : n ≤ max_lines) (h : Lines lines k n) (room : 5 * k ≤ length first)
    (w : Walk current positive lines k n p first out left i) where
  pub walk_done : left ≡ 0 → out ≡ over (controls_stored p (literals_in current positive lines n)) first
  walk_done e =
      let is = lines_done max_lines n lines left w.passed w.all e in
      w.buffer
      ∙ filling_done k p first room (map (literal_at current positive) w.passed) (length-map w.passed (literal_at current positive) ∙ sym (h.count ∙ ap length is))
      ∙ ap (λ (l : List ℕ). over (controls_stored p (map (literal_at current positive) l)) first) (sym is)

  -- a line is left: it is one of the n, and its control one of the k
  module _ (some : left ≡ 0 → ⊥) (line : ℕ) (is : line ≡ count_trailing_zeros max_lines left) where
    line_below : line < n
    line_below = omega (arith, is, lowest_below max_lines n left small (omega arith) w.below)

    more : lines_in lines n ≡ (w.passed ++ (line ∷ [])) ++ lines_in (bit_and left (left - 1)) n
    more = lines_on max_lines n lines left w.passed w.all small (omega arith) w.below line is

    passed_long : length (w.passed ++ (line ∷ [])) ≡ i + 1
    passed_long = length-append w.passed (line ∷ []) ∙ ap (λ (m : ℕ). m + 1) w.count

    pub inside : (line < n) × (i < k)
    inside = (line_below, omega (arith, h.count, ap length more, length-append (w.passed ++ (line ∷ [])) (lines_in (bit_and left (left - 1)) n), passed_long))

    pub walk_on : (last : List ℤ) (z : ℤ) → z ≡ literal_word (not (bit positive line)) (by_line current line)
        → last ≡ over (pos 0 ∷ pos 2 ∷ minus p ∷ literal_at current positive line ∷ []) (take (length (set out i z) - (k + 4 * i)) (drop (k + 4 * i) (set out i z)))
        → length last ≡ length (take (length (set out i z) - (k + 4 * i)) (drop (k + 4 * i) (set out i z)))
        → Walk current positive lines k n p first (put_mid (k + 4 * i) (length (set out i z) - (k + 4 * i)) (set out i z) last) (bit_and left (left - 1)) (i + 1)
    walk_on last z ez l kept =
        let cs = map (literal_at current positive) w.passed in
        let at = k + 4 * i in
        record {
          below = omega (arith, and_le_l left (left - 1), w.below);
          passed = w.passed ++ (line ∷ []);
          all = more;
          count = passed_long;
          long = same_len_mid at (length (set out i z) - at) (set out i z) last kept ∙ length-set out i z ∙ w.long;
          buffer =
              filling_more k p first room cs i (length-map w.passed (literal_at current positive) ∙ w.count) inside.1 (literal_at current positive line) out last z w.buffer w.long
              (ez ∙ negated_word (bit positive line) (by_line current line)) l
              ∙ ap (λ (m : List ℤ). filling k p m first) (sym (map-append (literal_at current positive) w.passed (line ∷ [])));
        }

pub lines_few : (lines k n : ℕ) → Lines lines k n → k ≤ n
lines_few lines k n h = let e = h.count in omega (arith, lines_ones n lines h.below, ones-le n lines h.below)

-- ---- the clauses with a p

-- in words
abbrev pub many_stored : List ℕ → ℕ → ℕ → ℕ → ℕ → ℕ → List ℤ
many_stored current used v positive lines n = stored (many_clauses (suc used) (suc (suc used)) v (literals_in current positive lines n))

-- k controls, room for their words, and variables that fit a word
pub record Many (lines k n used v room : ℕ) : Type 0 where
  pub controls : Lines lines k n
  pub few : used + 2 < word_limit
  pub target : v < word_limit
  pub enough : 5 * k + 8 ≤ room

-- two lent rests are filled one after the other
filled : (k : ℕ) (head mid tail first o l₂ l₃ : List ℤ) → length head ≡ 3 → length mid ≡ 5 * k → 5 * k + 8 ≤ length first
    → o ≡ over head first
    → l₂ ≡ over mid (take (length o - 3) (drop 3 o))
    → (o₂ : List ℤ) → o₂ ≡ put_mid 3 (length o - 3) o l₂
    → l₃ ≡ over tail (take (length o₂ - (3 + 5 * k)) (drop (3 + 5 * k) o₂))
    → put_mid (3 + 5 * k) (length o₂ - (3 + 5 * k)) o₂ l₃ ≡ over ((head ++ mid) ++ tail) first
filled k head mid tail first o l₂ l₃ a b room e e₂ o₂ f₂ e₃ =
    let long : length o ≡ length first = ap length e ∙ over_length head first (omega arith) in
    let two : length (head ++ mid) ≡ 3 + 5 * k = length-append head mid ∙ ap₂ ◌+◌ a b in
    let g₂ : o₂ ≡ over (head ++ mid) first = f₂ ∙ lent_over head mid first o l₂ 3 e a (omega arith) e₂ in
    let long₂ : length o₂ ≡ length first = ap length g₂ ∙ over_length (head ++ mid) first (omega arith) in
    lent_over (head ++ mid) tail first o₂ l₃ (3 + 5 * k) g₂ two (omega arith) e₃

many_stored_lem : (p w v k : ℕ) (cs : List ℤ) → length cs ≡ k
    → ((pos 0 ∷ pos (k + 1) ∷ plus p ∷ []) ++ controls_stored p cs) ++ (pos 1 ∷ pos 3 ∷ minus w ∷ plus v ∷ plus p ∷ [])
    ≡ stored (many_clauses p w v cs)
unfolding stored
many_stored_lem p w v k cs e =
    let end : List Clause = XOR (minus w ∷ plus v ∷ plus p ∷ []) ∷ [] in
    let c : k + 1 ≡ suc (length (map neg_ℤ cs)) = omega (arith, length-map cs neg_ℤ) in
    ap (λ (l : List ℤ). pos 0 ∷ pos (k + 1) ∷ plus p ∷ l) (append_assoc (map neg_ℤ cs) (stored (implied p cs)) (stored end))
    ∙ ap (λ (r : List ℤ). (pos 0 ∷ pos (k + 1) ∷ plus p ∷ []) ++ (map neg_ℤ cs ++ r)) (sym (stored_append (implied p cs) end))
    ∙ ap (λ (m : ℕ). (pos 0 ∷ pos m ∷ plus p ∷ map neg_ℤ cs) ++ stored (implied p cs ++ end)) c

-- so the clauses with a p stand at the buffer's start
pub many_filled : (current : List ℕ) (positive lines k n used v : ℕ) (first : List ℤ) → Many lines k n used v (length first)
    → (o l₂ l₃ : List ℤ) → o ≡ over (pos 0 ∷ pos (k + 1) ∷ plus (used + 1) ∷ []) first
    → l₂ ≡ over (controls_stored (used + 1) (literals_in current positive lines n)) (take (length o - 3) (drop 3 o))
    → (o₂ : List ℤ) → o₂ ≡ put_mid 3 (length o - 3) o l₂
    → l₃ ≡ over (pos 1 ∷ pos 3 ∷ minus (used + 1 + 1) ∷ plus v ∷ plus (used + 1) ∷ []) (take (length o₂ - (3 + 5 * k)) (drop (3 + 5 * k) o₂))
    → put_mid (3 + 5 * k) (length o₂ - (3 + 5 * k)) o₂ l₃ ≡ over (many_stored current used v positive lines n) first
many_filled current positive lines k n used v first m o l₂ l₃ e e₂ o₂ f₂ e₃ =
    let cs = literals_in current positive lines n in
    let p : ℕ = used + 1 in
    let mid : List ℤ = controls_stored p cs in
    let count : length cs ≡ k = length-map (lines_in lines n) (literal_at current positive) ∙ sym m.controls.count in
    let long : length mid ≡ 5 * k = omega (arith, length-append (map neg_ℤ cs) (stored (implied p cs)), length-map cs neg_ℤ, implied_words p cs) in
    filled k (pos 0 ∷ pos (k + 1) ∷ plus p ∷ []) mid (pos 1 ∷ pos 3 ∷ minus (p + 1) ∷ plus v ∷ plus p ∷ []) first o l₂ l₃ refl long m.enough e e₂ o₂ f₂ e₃
    ∙ ap (λ (l : List ℤ). over l first)
    (many_stored_lem p (p + 1) v k cs count
    ∙ ap₂ (λ (i j : ℕ). stored (many_clauses i j v cs)) (add-one used) (add-one (used + 1) ∙ ap suc (add-one used)))
