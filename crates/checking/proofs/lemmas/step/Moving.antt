-- The laws of words that move down, and of a step's words. Assumes nothing.
use Rattle.std.proofs.Common.{◌≡◌, ℕ, ◌+◌, ◌-◌, ◌*◌, ◌/◌, ◌%◌, ◌<◌, ◌≤◌, List, [], ◌∷◌, ◌++◌, length, take, drop, replicate, sym, refl, ap, ◌∙◌, ap₂, append_assoc, append-nil, arith, length-append, length-take, length-drop, length-take-le, take-take, drop-drop, take_at, take-add, drop_at}
use lib.ListN.{length-replicate}
use lib.Seq.{take-append-le, drop-append-le, drop-append-add}
use lib.Seq.{paste}
use borrow.Rule.Slice.PartMut.{put_mid}
use Rattle.bits.specs.Lists.{over}
use Rattle.bits.proofs.Lists.{over_length, rest_lent, rest_back}
use Rattle.circuit.specs.declared.gate.Gate.{Gate}
use Rattle.circuit.specs.Words.{gates_of, words_of, gate_words}
use Rattle.circuit.proofs.Promises.{gates_length, words_gates, words_append, words_length, words_none, words_one, words_take, words_drop}
use Rattle.checking.specs.Step.{between, replaced, filled}

module _ (ws : List ℕ) (to from : ℕ) where
  -- the first `to` words, and k words from `from` on
  abbrev pub moved : ℕ → List ℕ
  moved k = take to ws ++ take k (drop from ws)

  pub moved_length : (k : ℕ) → to ≤ length ws → from + k ≤ length ws → length (moved k) ≡ to + k
  moved_length k h l =
      length-append (take to ws) _
      ∙ ap₂ (λ (x y : ℕ). x + y) (length-take-le to ws h) (length-take-le k (drop from ws) (omega (arith, length-drop from ws)))

  -- as `copy_within` moves them
  pub moved_over : (k : ℕ) → to ≤ length ws → from + k ≤ length ws → paste ws to (drop from ws) k ≡ over (moved k) ws
  moved_over k h l = ap (λ (n : ℕ). moved k ++ drop n ws) (sym (moved_length k h l))

-- a gap closed: the words after it moved down, and zeros after them
pub gap_closed : (ws mid last : List ℕ) (to gap : ℕ) → to + gap ≤ length ws → mid ≡ paste ws to (drop (to + gap) ws) (length ws - (to + gap))
    → last ≡ replicate (length (take (length mid - (length ws - gap)) (drop (length ws - gap) mid))) 0
    → put_mid (length ws - gap) (length mid - (length ws - gap)) mid last ≡ (take to ws ++ drop (to + gap) ws) ++ replicate gap 0
gap_closed ws mid last to gap h e f =
    let front : List ℕ = moved ws to (to + gap) (length ws - (to + gap)) in
    let n : length front ≡ length ws - gap = moved_length ws to (to + gap) (length ws - (to + gap)) (omega arith) (omega arith) ∙ omega arith in
    let g : mid ≡ over front ws = e ∙ moved_over ws to (to + gap) (length ws - (to + gap)) (omega arith) (omega arith) in
    let m : length mid ≡ length ws = ap length g ∙ over_length front ws (omega arith) in
    let z : length (take (length mid - (length ws - gap)) (drop (length ws - gap) mid)) ≡ gap = simp (length-take, length-drop) (omega arith) in
    rest_back mid last (length ws - gap) (omega arith)
    ∙ ap₂ (λ (x y : List ℕ). x ++ y) (ap (take (length ws - gap)) g ∙ take_at front _ (length ws - gap) n ∙ ap (λ (x : List ℕ). take to ws ++ x) (rest_lent ws (to + gap))) (f ∙ ap (λ (k : ℕ). replicate k 0) z)

-- ---- a step's words

-- what was moved to the front, and the words behind it
pushed : (front ws w : List ℕ) (to from : ℕ) → length front ≡ to → to ≤ from → w ≡ over front ws → take to w ++ drop from w ≡ front ++ drop from ws
pushed front ws w to from e h f =
    let n : ℕ = length front in
    let d : n + (from - n) ≡ from = omega arith in
    ap (λ (x : List ℕ). take to x ++ drop from x) f
    ∙ ap₂ (λ (x y : List ℕ). x ++ y) (take_at front (drop n ws) to e)
    (ap (λ (k : ℕ). drop k (over front ws)) (sym d)
    ∙ drop-append-add front (drop n ws) (from - n)
    ∙ drop-drop (from - n) n ws
    ∙ ap (λ (k : ℕ). drop k ws) d)

-- what is left of a part's start
pub drop_take : (n j : ℕ) (l : List ℕ) → n ≤ j → j ≤ length l → drop n (take j l) ≡ take (j - n) (drop n l)
drop_take n j l h k =
    let e : n + (j - n) ≡ j = omega arith in
    ap (drop n) (ap (λ (m : ℕ). take m l) (sym e) ∙ take-add n (j - n) l) ∙ drop_at (take n l) _ n (length-take-le n l (omega arith))

pub replaced_length : (i j : ℕ) (rest gs : List Gate) → i < j → j < length gs → length (replaced i j rest gs) + 2 ≡ length gs + length rest
unfolding replaced
replaced_length i j rest gs h l =
    let a = length-append (take i gs) (between i j gs ++ (rest ++ drop (j + 1) gs)) in
    let b = length-append (between i j gs) (rest ++ drop (j + 1) gs) in
    let d = length-append rest (drop (j + 1) gs) in
    let e = length-take-le i gs (omega arith) in
    let f = length-take-le (j - (i + 1)) (drop (i + 1) gs) (omega (arith, length-drop (i + 1) gs)) in
    let k = length-drop (j + 1) gs in
    omega arith

module _ (ws : List ℕ) (i j : ℕ) (rest : List Gate) (order : i < j) (inside : j < length ws / 3) (whole : length ws % 3 ≡ 0) where
  -- the words of the gates before j but gate i
  abbrev pub before : List ℕ
  before = moved ws (3 * i) (3 * (i + 1)) (3 * j - 3 * (i + 1))

  words_replaced : words_of (replaced i j rest (gates_of ws)) ≡ (before ++ words_of rest) ++ drop (3 * (j + 1)) ws
  unfolding replaced
  words_replaced =
      let gs : List Gate = gates_of ws in
      let w : words_of gs ≡ ws = words_gates ws whole in
      let n : 3 * (j - (i + 1)) ≡ 3 * j - 3 * (i + 1) = omega arith in
      let a : words_of (take i gs) ≡ take (3 * i) ws = words_take i gs ∙ ap (take (3 * i)) w in
      let b : words_of (between i j gs) ≡ take (3 * j - 3 * (i + 1)) (drop (3 * (i + 1)) ws) =
      words_take (j - (i + 1)) (drop (i + 1) gs)
      ∙ ap₂ (λ (k : ℕ) (l : List ℕ). take k l) n (words_drop (i + 1) gs ∙ ap (drop (3 * (i + 1))) w) in
      let d : words_of (drop (j + 1) gs) ≡ drop (3 * (j + 1)) ws = words_drop (j + 1) gs ∙ ap (drop (3 * (j + 1))) w in
      words_append (take i gs) (between i j gs ++ (rest ++ drop (j + 1) gs))
      ∙ ap₂ (λ (x y : List ℕ). x ++ y) a
      (words_append (between i j gs) (rest ++ drop (j + 1) gs)
      ∙ ap₂ (λ (x y : List ℕ). x ++ y) b (words_append rest (drop (j + 1) gs) ∙ ap (λ (x : List ℕ). words_of rest ++ x) d))
      ∙ sym (append_assoc before (words_of rest) _
      ∙ append_assoc (take (3 * i) ws) _ _)

  -- gate i taken out of words that are unchanged before place j
  out_first : (mid new : List ℕ) → mid ≡ take (3 * j) ws ++ new → take (3 * i) mid ++ drop (3 * i + 3) mid ≡ before ++ new
  out_first mid new e =
      let l : length (take (3 * j) ws) ≡ 3 * j = length-take-le (3 * j) ws (omega arith) in
      let n : 3 * i + 3 ≡ 3 * (i + 1) = omega arith in
      ap (λ (x : List ℕ). take (3 * i) x ++ drop (3 * i + 3) x) e
      ∙ ap₂ (λ (x y : List ℕ). x ++ y)
      (take-append-le (3 * i) (take (3 * j) ws) new (omega arith) ∙ take-take (3 * i) (3 * j) ws (omega arith))
      (ap (λ (k : ℕ). drop k (take (3 * j) ws ++ new)) n
      ∙ drop-append-le (3 * (i + 1)) (take (3 * j) ws) new (omega arith)
      ∙ ap (λ (x : List ℕ). x ++ new) (drop_take (3 * (i + 1)) (3 * j) ws (omega arith) (omega arith)))
      ∙ sym (append_assoc (take (3 * i) ws) _ new)

  -- the words after a step
  filled_is : (zeros : ℕ) → zeros + 3 * length rest ≡ 6 → filled (replaced i j rest (gates_of ws)) (length ws) ≡ ((before ++ words_of rest) ++ drop (3 * (j + 1)) ws) ++ replicate zeros 0
  unfolding filled
  filled_is zeros h =
      let g = gates_length ws in
      let r = replaced_length i j rest (gates_of ws) order (omega arith) in
      let z : length ws - 3 * length (replaced i j rest (gates_of ws)) ≡ zeros = omega arith in
      ap₂ (λ (x : List ℕ) (k : ℕ). x ++ replicate k 0) words_replaced z

-- gate i, and then place j, closed up
pub pair_removed : (ws mid last : List ℕ) (i j : ℕ) → i < j → j < length ws / 3 → length ws % 3 ≡ 0
    → mid ≡ paste ws (3 * i) (drop (3 * (i + 1)) ws) (3 * j - 3 * (i + 1))
    → last ≡ (take (3 * (j - 1)) mid ++ drop (3 * (j - 1) + 6) mid) ++ replicate 6 0
    → last ≡ filled (replaced i j [] (gates_of ws)) (length ws)
pair_removed ws mid last i j o h w e f =
    let m : 3 * (j - 1) + 6 ≡ 3 * (j + 1) = omega arith in
    let b : List ℕ = before ws i j [] o h w in
    let l : length b ≡ 3 * (j - 1) = moved_length ws (3 * i) (3 * (i + 1)) (3 * j - 3 * (i + 1)) (omega arith) (omega arith) ∙ omega arith in
    f
    ∙ ap (λ (x : List ℕ). x ++ replicate 6 0)
    (pushed b ws mid (3 * (j - 1)) (3 * (j - 1) + 6) l (omega arith) (e ∙ moved_over ws (3 * i) (3 * (i + 1)) (3 * j - 3 * (i + 1)) (omega arith) (omega arith))
    ∙ ap₂ (λ (x : List ℕ) (k : ℕ). x ++ drop k ws) (sym (ap (λ (x : List ℕ). b ++ x) words_none ∙ append-nil b)) m)
    ∙ sym (filled_is ws i j [] o h w 6 refl)

-- place j taken by the gate that remains, and gate i taken out
pub pair_merged : (ws mid last : List ℕ) (i j : ℕ) (r : Gate) → i < j → j < length ws / 3 → length ws % 3 ≡ 0
    → mid ≡ take (3 * j) ws ++ over (gate_words r) (drop (3 * j) ws) → last ≡ (take (3 * i) mid ++ drop (3 * i + 3) mid) ++ replicate 3 0
    → last ≡ filled (replaced i j (r ∷ []) (gates_of ws)) (length ws)
pair_merged ws mid last i j r o h w e f =
    let n : 3 * j + 3 ≡ 3 * (j + 1) = omega arith in
    let d : List ℕ = drop (3 * (j + 1)) ws in
    let b : List ℕ = before ws i j (r ∷ []) o h w in
    let g : over (gate_words r) (drop (3 * j) ws) ≡ gate_words r ++ d = ap (λ (x : List ℕ). gate_words r ++ x) (drop-drop 3 (3 * j) ws ∙ ap (λ (k : ℕ). drop k ws) n) in
    f
    ∙ ap (λ (x : List ℕ). x ++ replicate 3 0)
    (out_first ws i j (r ∷ []) o h w mid (gate_words r ++ d) (e ∙ ap (λ (x : List ℕ). take (3 * j) ws ++ x) g) ∙ sym (ap (λ (x : List ℕ). (b ++ x) ++ d) (words_one r) ∙ append_assoc b (gate_words r) d))
    ∙ sym (filled_is ws i j (r ∷ []) o h w 3 refl)

pub filled_length : (gs : List Gate) (room : ℕ) → 3 * length gs ≤ room → length (filled gs room) ≡ room
unfolding filled
filled_length gs room h =
    length-append (words_of gs) _ ∙ ap₂ (λ (x y : ℕ). x + y) (words_length gs) (length-replicate (room - 3 * length gs) 0) ∙ omega arith
