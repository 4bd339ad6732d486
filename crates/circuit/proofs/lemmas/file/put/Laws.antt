-- The laws of the writer: bytes put at the start of a buffer and after those, the lines of a mask, and the controls that it writes. Assumes nothing.
use Rattle.std.proofs.Common.{◌≡◌, ℕ, zero, suc, ◌+◌, ◌-◌, ◌*◌, ◌/◌, ◌^◌, ◌<◌, ◌≤◌, Bool, true, false, cond, leb, List, [], ◌∷◌, ◌++◌, map, length, take, drop, set, sym, refl, ap, ◌∙◌, subst, ap₂, append_assoc, append-nil, div-lt_iff_lt-mul, ⊎_elim, eq-zero-or-pos, arith, drop-drop, length-append, length-drop, length-take, take_all, pow_pos, le-leb}
use Rattle.std.specs.List.{flat_map}
use Rattle.std.proofs.Math.Nat.{mul-suc, mul-zero}
use Rattle.std.proofs.lemmas.List.Concat.{flat_map-append}
use mathlib.Core.List.{map-append}
use lib.Bits.{bit_and, bit_or, or_lt, and_le_l}
use lib.Count.{ones, count_trailing_zeros}
use lib.Seq.{sets-eq, take-append_seam, drop-append-add}
use borrow.Author.Tests.{lt-leb}
use borrow.Rule.Slice.PartMut.{put_mid, same_len_mid}
use Rattle.bits.specs.Digits.{bit, lines_in}
use Rattle.bits.specs.Lists.{over, Put}
use Rattle.bits.proofs.Digits.{bit_shifted, lines_ones}
use Rattle.bits.proofs.Lists.{lent_over}
use Rattle.bits.proofs.Lowest.{lowest_below, lines_on, lines_done}
use Rattle.circuit.specs.declared.gate.Gate.{Gate}
use Rattle.circuit.specs.Gate.{max_lines, Control, control_at, controls_below, controls_of}
use Rattle.circuit.proofs.lemmas.gate.Controls.{control_on, controls_lines}
use Rattle.circuit.specs.Text.{tab, line_feed, number_text, control_text, controls_text, gate_text, gate_line, count_line}
use Rattle.circuit.specs.private.Put.{mask_gate, control_piece}
use Rattle.circuit.specs.private.Scan.{width}
use Rattle.circuit.proofs.lemmas.file.scan.Rest.{number_width}

-- ---- bytes after bytes

-- `front` stands at the start of the buffer, and `at` is its length
pub record Written (first out : List ℕ) (at : ℕ) (front : List ℕ) : Type 0 where
  pub is : out ≡ over front first
  pub long : at ≡ length front
  pub same : length out ≡ length first

-- a word that the kit copied
pub copied : (word out last : List ℕ) (r : ℕ) → r ≡ length word → last ≡ take (length word) word ++ drop (length word) out → Put r last word out
copied word out last r e b =
    record { count = e; buffer = b ∙ ap (λ (x : List ℕ). x ++ drop (length word) out) (take_all (length word) word (omega arith)) }

-- the rest of the buffer was lent, and `new` put at its start
pub written_more : (first out : List ℕ) (at : ℕ) (front : List ℕ) → Written first out at front → (r : ℕ) (last new : List ℕ) → at ≤ length out
    → Put r last new (take (length out - at) (drop at out)) → length last ≡ length (take (length out - at) (drop at out))
    → Written first (put_mid at (length out - at) out last) (at + r) (front ++ new)
written_more first out at front w r last new h p l =
    let k = w.long in
    let c = p.count in
    record {
      is = lent_over front new first out last at w.is (sym w.long) h p.buffer;
      long = omega (arith, length-append front new);
      same = same_len_mid at (length out - at) out last l ∙ w.same;
    }

pub written_none : (out : List ℕ) → Written out out 0 []
written_none out = record { is = refl; long = refl; same = refl }

pub written_put : (first out : List ℕ) (at : ℕ) (front : List ℕ) → Written first out at front → Put at out front first
written_put first out at front w = record { count = w.long; buffer = w.is }

-- after the first bytes, others that were put at the start of the rest
pub put_then : (first out : List ℕ) (at : ℕ) (front : List ℕ) → Put at out front first → length out ≡ length first → (r : ℕ) (last new : List ℕ) → at ≤ length out
    → Put r last new (take (length out - at) (drop at out)) → length last ≡ length (take (length out - at) (drop at out))
    → Put (at + r) (put_mid at (length out - at) out last) (front ++ new) first
put_then first out at front p s r last new h q l =
    written_put _ _ _ _ (written_more first out at front (record { is = p.buffer; long = p.count; same = s }) r last new h q l)

-- after the first bytes, one more
pub put_byte : (first out : List ℕ) (at : ℕ) (front : List ℕ) (b : ℕ) → Put at out front first → at < length out → Put (at + 1) (set out at b) (front ++ (b ∷ [])) first
put_byte first out at front b p h =
    let k : ℕ = length front in
    let c : at ≡ k = p.count in
    let n : length (front ++ (b ∷ [])) ≡ k + 1 = omega (arith, length-append front (b ∷ [])) in
    let e : k + length {A = ℕ} (b ∷ []) ≡ k + 1 = omega arith in
    record {
      count = omega arith;
      buffer =
          ap (λ (i : ℕ). set out i b) c
          ∙ sets-eq (b ∷ []) out k (omega arith)
          ∙ ap (λ (i : ℕ). (take k out ++ (b ∷ [])) ++ drop i out) e
          ∙ ap₂ (λ (x y : List ℕ). (x ++ (b ∷ [])) ++ y) (ap (take k) p.buffer ∙ take-append_seam front (drop k first)) (ap (drop (k + 1)) p.buffer ∙ drop-append-add front (drop k first) 1 ∙ drop-drop 1 k first)
          ∙ ap (λ (i : ℕ). (front ++ (b ∷ [])) ++ drop i first) (sym n);
    }

pub rest_length : (out : List ℕ) (at : ℕ) → at ≤ length out → length (take (length out - at) (drop at out)) ≡ length out - at
rest_length out at h = omega (arith, length-take (length out - at) (drop at out), length-drop at out)

-- ---- the controls on the lines of a mask

lines_text : (p : ℕ) (ls : List ℕ) → controls_text (map (control_on p) ls) ≡ flat_map (control_piece p) ls
unfolding controls_text
lines_text p [] = refl
lines_text p (k ∷ ls) = ap (λ (l : List ℕ). control_piece p k ++ l) (lines_text p ls)

pub mask_text : (p q : ℕ) → controls_text (controls_of (mask_gate p q)) ≡ flat_map (control_piece p) (lines_in (bit_or p q) max_lines)
mask_text p q = ap controls_text (controls_lines (mask_gate p q) max_lines) ∙ lines_text p (lines_in (bit_or p q) max_lines)

pub control_length : (c : Control) → length (control_text c) ≡ 1 + width c.line
control_length c = omega (arith, number_width c.line)

-- the target does not matter to the controls
same_below : (g : Gate) (m : ℕ) → controls_below m (mask_gate g.positive g.negative) ≡ controls_below m g
unfolding controls_below
same_below g zero = refl
same_below g (suc m) = ap (λ (l : List Control). l ++ control_at g m) (same_below g m)

pub same_controls : (g : Gate) → controls_text (controls_of (mask_gate g.positive g.negative)) ≡ controls_text (controls_of g)
same_controls g = ap controls_text (same_below g max_lines)

-- ---- how long the texts of lines are

-- how many of the lines have two digits
unfoldable wide : List ℕ → ℕ
wide [] = 0
wide (k ∷ ls) = cond (leb 10 k) 1 0 + wide ls

wide_append : (a b : List ℕ) → wide (a ++ b) ≡ wide a + wide b
unfolding wide
wide_append [] b = omega arith
wide_append (k ∷ a) b = omega (arith, wide_append a b)

-- texts of so many bytes, and a second digit from line 10 on
lines_long : (each : ℕ) (f : ℕ → List ℕ) → ((k : ℕ) → length (f k) + 1 ≡ each + width k) → (ls : List ℕ) → length (flat_map f ls) ≡ each * length ls + wide ls
unfolding wide
lines_long each f h [] = omega (arith, mul-zero each)
lines_long each f h (k ∷ ls) =
    omega (arith, length-append (f k) (flat_map f ls), h k, digits_of (leb 10 k), lines_long each f h ls, mul-suc each (length ls))
  where
    digits_of : (b : Bool) → cond b 2 1 ≡ 1 + cond b 1 0
    digits_of true = refl
    digits_of false = refl

wide_low : (x m : ℕ) → m ≤ 10 → wide (lines_in x m) ≡ 0
unfolding wide lines_in
wide_low x zero h = refl
wide_low x (suc m) h = omega (arith, wide_append (lines_in x m) (cond (bit x m) (m ∷ []) []), wide_low x m (omega arith), none (bit x m))
  where
    none : (b : Bool) → wide (cond b (m ∷ []) []) ≡ 0
    none true = unfold wide in ap (λ (t : Bool). cond t 1 0 + 0) (lt-leb 10 m (omega arith))
    none false = unfold wide in refl

-- the lines of a mask are those below 10, and 10 more than those of the mask shifted by 10
pub lines_from_10 : (x n : ℕ) → lines_in x (10 + n) ≡ lines_in x 10 ++ map (λ (k : ℕ). 10 + k) (lines_in (x / 2 ^ 10) n)
unfolding lines_in
lines_from_10 x zero = sym (append-nil (lines_in x 10))
lines_from_10 x (suc n) =
    let e : 10 + suc n ≡ suc (10 + n) = omega arith in
    let up : ℕ → ℕ = λ (k : ℕ). 10 + k in
    let c : Bool = bit (x / 2 ^ 10) n in
    ap (lines_in x) e
    ∙ ap₂ (λ (l m : List ℕ). l ++ m) (lines_from_10 x n) (one (bit x (10 + n)) ∙ ap (λ (t : Bool). map up (cond t (n ∷ []) [])) (sym (bit_shifted 10 x n)))
    ∙ append_assoc (lines_in x 10) (map up (lines_in (x / 2 ^ 10) n)) (map up (cond c (n ∷ []) []))
    ∙ ap (λ (l : List ℕ). lines_in x 10 ++ l) (sym (map-append up (lines_in (x / 2 ^ 10) n) (cond c (n ∷ []) [])))
  where
    one : (b : Bool) → cond b ((10 + n) ∷ []) [] ≡ map (λ (k : ℕ). 10 + k) (cond b (n ∷ []) [])
    one true = refl
    one false = refl

wide_shifted : (ls : List ℕ) → wide (map (λ (k : ℕ). 10 + k) ls) ≡ length ls
unfolding wide
wide_shifted [] = refl
wide_shifted (k ∷ ls) =
    let one : ℕ = 1 in
    let e : cond (leb 10 (10 + k)) one 0 ≡ one = ap (λ (t : Bool). cond t one 0) (le-leb 10 (10 + k) (omega arith)) in
    omega (arith, e, wide_shifted ls)

wide_high : (x n : ℕ) → wide (lines_in x (10 + n)) ≡ length (lines_in (x / 2 ^ 10) n)
wide_high x n =
    let high : List ℕ = map (λ (k : ℕ). 10 + k) (lines_in (x / 2 ^ 10) n) in
    omega (arith, ap wide (lines_from_10 x n), wide_append (lines_in x 10) high, wide_low x 10 (omega arith), wide_shifted (lines_in (x / 2 ^ 10) n))

-- the same by the mask
pub mask_long : (each : ℕ) (f : ℕ → List ℕ) → ((k : ℕ) → length (f k) + 1 ≡ each + width k) → (x : ℕ) → x < 2 ^ 64
    → each * ones x + ones (x / 2 ^ 10) ≡ length (flat_map f (lines_in x max_lines))
mask_long each f h x l =
    sym (lines_long each f h (lines_in x 64) ∙ ap₂ (λ (a b : ℕ). each * a + b) (lines_ones 64 x l) (wide_high x 54 ∙ lines_ones 54 (x / 2 ^ 10) ((div-lt_iff_lt-mul (pow_pos 10)).1 l)))

-- three bytes a control
pub controls_long : (p q : ℕ) → p < 2 ^ 64 → q < 2 ^ 64
    → 3 * ones (bit_or p q) + ones (bit_or p q / 2 ^ 10) ≡ length (controls_text (controls_of (mask_gate p q)))
controls_long p q hp hq =
    mask_long 3 (control_piece p) (λ k. omega (arith, control_length (control_on p k))) (bit_or p q) (or_lt 64 p q hp hq) ∙ sym (ap length (mask_text p q))

pub gate_length : (g : Gate) → length (gate_line g) ≡ 3 + width g.target + length (controls_text (controls_of g))
gate_length g =
    omega (arith, length-append (103 ∷ tab ∷ (number_text g.target ++ controls_text (controls_of g))) (line_feed ∷ []), length-append (number_text g.target) (controls_text (controls_of g)), number_width g.target)

pub header_length : (n : ℕ) → length (count_line n) ≡ 7 + width n
header_length n = omega (arith, length-append (number_text n) (line_feed ∷ []), number_width n)

-- the same bytes, said in another way
pub put_as : (r : ℕ) (last a b first : List ℕ) → a ≡ b → Put r last a first → Put r last b first
put_as r last a b first e p = record { count = p.count ∙ ap length e; buffer = p.buffer ∙ ap (λ (l : List ℕ). over l first) e }

-- what a loop over the lines of a mask keeps: `left` has the lines that are left, and the texts of the others stand at the start of the buffer
pub record Putting (f : ℕ → List ℕ) (mask : ℕ) (first out : List ℕ) (at left : ℕ) : Type 0 where
  pub below : left < 2 ^ max_lines
  pub passed : List ℕ
  pub all : lines_in mask max_lines ≡ passed ++ lines_in left max_lines
  pub written : Written first out at (flat_map f passed)
  pub room : length (flat_map f (lines_in mask max_lines)) ≤ length first

pub putting_start : (f : ℕ → List ℕ) (mask : ℕ) (out : List ℕ) → mask < 2 ^ max_lines → length (flat_map f (lines_in mask max_lines)) ≤ length out → Putting f mask out out 0 mask
putting_start f mask out b h = record { below = b; passed = []; all = refl; written = written_none out; room = h }

module _ (f : ℕ → List ℕ) (mask : ℕ) (first out : List ℕ) (at left : ℕ) (t : Putting f mask first out at left) where
  pub putting_done : left ≡ 0 → Put at out (flat_map f (lines_in mask max_lines)) first
  putting_done e =
      put_as at out _ _ first (sym (ap (flat_map f) (lines_done max_lines max_lines mask left t.passed t.all e))) (written_put first out at _ t.written)

  module _ (left_some : left ≡ 0 → ⊥) (k : ℕ) (is : k ≡ count_trailing_zeros max_lines left) where
    some : 0 < left
    some = ⊎_elim (λ z. absurd (left_some z)) (λ p. p) (eq-zero-or-pos left)

    -- where the lines that are left are below n, this one is
    pub line_below_n : (n : ℕ) → n ≤ max_lines → left < 2 ^ n → k < n
    line_below_n n l h = omega (arith, is, lowest_below max_lines n left l some h)

    pub line_below : k < max_lines
    line_below = line_below_n max_lines (omega arith) t.below

    more : lines_in mask max_lines ≡ (t.passed ++ (k ∷ [])) ++ lines_in (bit_and left (left - 1)) max_lines
    more = lines_on max_lines max_lines mask left t.passed t.all (omega arith) some t.below k is

    text_more : flat_map f (t.passed ++ (k ∷ [])) ≡ flat_map f t.passed ++ f k
    text_more = flat_map-append f t.passed (k ∷ []) ∙ ap (λ (l : List ℕ). flat_map f t.passed ++ l) (append-nil (f k))

    pub putting_room : at + length (f k) ≤ length out
    putting_room =
        let a = ap length (ap (flat_map f) more ∙ flat_map-append f (t.passed ++ (k ∷ [])) (lines_in (bit_and left (left - 1)) max_lines)) in
        omega
        (arith, a, length-append (flat_map f (t.passed ++ (k ∷ []))) (flat_map f (lines_in (bit_and left (left - 1)) max_lines)), ap length text_more, length-append (flat_map f t.passed) (f k), t.written.long, t.written.same, t.room)

    pub putting_on : (r : ℕ) (last text : List ℕ) → text ≡ f k → Put r last text (take (length out - at) (drop at out))
        → length last ≡ length (take (length out - at) (drop at out)) → Putting f mask first (put_mid at (length out - at) out last) (at + r) (bit_and left (left - 1))
    putting_on r last text e put kept =
        let w = written_more first out at _ t.written r last _ (omega (arith, putting_room)) (put_as _ _ _ _ _ e put) kept in
        record {
          below = omega (arith, and_le_l left (left - 1), t.below);
          passed = t.passed ++ (k ∷ []);
          all = more;
          written = subst (λ (l : List ℕ). Written first (put_mid at (length out - at) out last) (at + r) l) (sym text_more) w;
          room = t.room;
        }

pub line_length : (g : Gate) → length (gate_line g) ≡ length (gate_text g) + 1
line_length g = length-append (gate_text g) (line_feed ∷ [])

pub text_length : (g : Gate) → length (gate_text g) ≡ length (103 ∷ tab ∷ number_text g.target) + length (controls_text (controls_of g))
text_length g = omega (arith, length-append (number_text g.target) (controls_text (controls_of g)))

pub header_text_length : (n : ℕ) → length (count_line n) ≡ length (108 ∷ 105 ∷ 110 ∷ 101 ∷ 115 ∷ tab ∷ number_text n) + 1
header_text_length n = omega (arith, length-append (number_text n) (line_feed ∷ []))
