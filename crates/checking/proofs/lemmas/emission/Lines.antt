-- What the emission's loops over the lines write, line by line. Assumes nothing.
use Rattle.std.proofs.Common.{◌≡◌, ℕ, zero, suc, ◌+◌, ◌-◌, ◌^◌, ◌<◌, ◌≤◌, Bool, true, false, cond, not, ◌&&◌, List, [], ◌∷◌, ◌++◌, map, length, take, drop, set, ℤ, pos, sym, refl, ap, ◌∙◌, ap₂, append_assoc, append-nil, arith, length-append, lt-ltb, pow_pos}
use mathlib.Core.Bool.{xor}
use mathlib.Core.List.{map-append}
use lib.Bits.{bit_and, and_le_l}
use lib.Count.{count_trailing_zeros}
use lib.ListN.{length-map}
use borrow.Rule.Slice.PartMut.{put_mid}
use Rattle.bits.specs.Digits.{bit, lines_in}
use Rattle.bits.specs.Lists.{over, Put}
use Rattle.bits.proofs.Bools.{xor_all}
use Rattle.bits.proofs.Digits.{bit-and, bit-xor}
use Rattle.bits.proofs.Lists.{over_length, over_push, lent_over}
use Rattle.bits.proofs.Lowest.{lines_none, lines_lowest, lowest_below}
use Rattle.circuit.specs.Gate.{max_lines}
use Rattle.checking.specs.Clauses.{plus, up_from, difference_clauses}
use Rattle.checking.specs.Pair.{without_junk}
use Rattle.checking.specs.Stored.{stored}
use Rattle.checking.specs.private.Emitter.{by_line}
use Rattle.checking.specs.private.Emission.{line_stored, lines_stored, counted_stored, last_stored, LineReady, LinesReady, LinesPut}
use Rattle.checking.proofs.lemmas.clauses.Forced.{length_up_from}
use Rattle.checking.proofs.lemmas.clauses.Totals.{up_from_more, counted_more}
use Rattle.checking.proofs.lemmas.emitter.Parts.{lent_long}
use Rattle.checking.proofs.lemmas.faults.Masks.{flipped, all_bit}
use Rattle.checking.proofs.lemmas.pair_emission.Fits.{kept_few}

-- ---- the lines that count, as a mask

counted_mask : (mask junk n : ℕ) → ((k : ℕ) → k < n → bit mask k ≡ not (bit junk k)) → lines_in mask n ≡ without_junk junk (up_from 0 n)
unfolding lines_in up_from without_junk
counted_mask mask junk zero same = refl
counted_mask mask junk (suc n) same =
    ap₂ (λ (xs ys : List ℕ). xs ++ ys) (counted_mask mask junk n (λ k h. same k (omega arith)))
    (ap (λ (b : Bool). cond b (n ∷ []) []) (same n (omega arith)) ∙ flip (bit junk n))
    ∙ sym (counted_more junk n)
  where
    flip : (b : Bool) → cond (not b) (n ∷ []) [] ≡ cond b [] (n ∷ [])
    flip true = refl
    flip false = refl

-- ---- the clauses of the d

-- the clauses of the lines passed stand at the buffer's start, and those of the lines of the mask are left
pub record Compared (n junk : ℕ) (left right : List ℕ) (start_used : ℕ) (first out : List ℤ) (lines used at : ℕ) : Type 0 where
  pub front : List ℤ
  pub below : lines < 2 ^ n
  pub clauses_left : counted_stored n junk left right start_used ≡ front ++ lines_stored left right used (lines_in lines n)
  pub number_left : used + length (lines_in lines n) ≡ start_used + length (without_junk junk (up_from 0 n))
  pub place : length front ≡ at
  pub as_long : length out ≡ length first
  pub buffer : out ≡ over front first

pub compared_none : (n junk : ℕ) (left right : List ℕ) (used : ℕ) (first : List ℤ) → n ≤ max_lines → junk < 2 ^ max_lines
    → Compared n junk left right used first first (bit_and (2 ^ n - 1) (2 ^ max_lines - 1 - junk)) used 0
compared_none n junk left right used first few small =
    let mask : ℕ = bit_and (2 ^ n - 1) (2 ^ max_lines - 1 - junk) in
    let same : lines_in mask n ≡ without_junk junk (up_from 0 n) =
    counted_mask mask junk n (λ k h.
    bit-and (2 ^ n - 1) (2 ^ max_lines - 1 - junk) k
    ∙ ap₂ ◌&&◌ (all_bit n k ∙ lt-ltb k n h)
    (ap (λ (x : ℕ). bit x k) (flipped max_lines junk small)
    ∙ bit-xor junk (2 ^ max_lines - 1) k
    ∙ ap (xor (bit junk k)) (all_bit max_lines k ∙ lt-ltb k max_lines (omega arith))
    ∙ xor_all (bit junk k))) in
    record {
      front = [];
      below = omega (arith, and_le_l (2 ^ n - 1) (2 ^ max_lines - 1 - junk), pow_pos n);
      clauses_left = ap (lines_stored left right used) (sym same);
      number_left = ap (λ (ls : List ℕ). used + length ls) same;
      place = refl;
      as_long = refl;
      buffer = refl;
    }

module _ (n junk : ℕ) (left right : List ℕ) (start_used : ℕ) (first out : List ℤ) (lines used at : ℕ) (ready : LinesReady n junk left right start_used (length first))
    (e : Compared n junk left right start_used first out lines used at) where
  -- a line is left
  module _ (some : lines ≡ 0 → ⊥) (line : ℕ) (is : line ≡ count_trailing_zeros max_lines lines) where
    abbrev later : List ℕ
    later = lines_in (bit_and lines (lines - 1)) n

    abbrev new : List ℤ
    new = line_stored (used + 1) (by_line left line) (by_line right line)

    pub line_below : line < n
    line_below = omega (arith, is, lowest_below max_lines n lines ready.lines (omega arith) e.below)

    next : lines_in lines n ≡ line ∷ later
    next = lines_lowest max_lines n lines ready.lines (omega arith) e.below ∙ ap (λ (k : ℕ). k ∷ later) (sym is)

    pub used_few : used < start_used + n
    used_few = omega (arith, e.number_left, ap length next, kept_few junk (up_from 0 n), length_up_from 0 n)

    split : counted_stored n junk left right start_used ≡ (e.front ++ new) ++ lines_stored left right (used + 1) later
    unfolding difference_clauses stored
    split =
        let one : suc used ≡ used + 1 = omega arith in
        e.clauses_left
        ∙ ap (λ (ls : List ℕ). e.front ++ lines_stored left right used ls) next
        ∙ ap (λ (d : ℕ). e.front ++ (line_stored d (by_line left line) (by_line right line) ++ lines_stored left right d later)) one
        ∙ sym (append_assoc e.front new (lines_stored left right (used + 1) later))

    pub line_room : at + length new ≤ length out
    line_room =
        omega (
          arith,
          ap length split,
          length-append (e.front ++ new) (lines_stored left right (used + 1) later),
          length-append e.front new,
          ready.enough,
          e.place,
          e.as_long,
        )

    pub line_ready : LineReady (used + 1) (by_line left line) (by_line right line) (length (take (length out - at) (drop at out)))
    line_ready =
        record {
          difference = omega (arith, ready.few, used_few);
          first = ready.small_left line line_below;
          last = ready.small_right line line_below;
          enough = omega (arith, lent_long out at, line_room);
        }

    pub compared_next : (last : List ℤ) (words : ℕ) → Put words last new (take (length out - at) (drop at out))
        → Compared n junk left right start_used first (put_mid at (length out - at) out last) (bit_and lines (lines - 1)) (used + 1) (at + words)
    compared_next last words p =
        let filled = lent_over e.front new first out last at e.buffer e.place (omega (arith, line_room)) p.buffer in
        let front_long = length-append e.front new in
        record {
          front = e.front ++ new;
          below = omega (arith, and_le_l lines (lines - 1), e.below);
          clauses_left = split;
          number_left = omega (arith, e.number_left, ap length next);
          place = omega (arith, front_long, e.place, p.count);
          as_long = ap length filled ∙ over_length (e.front ++ new) first (omega (arith, front_long, e.place, line_room, e.as_long));
          buffer = filled;
        }

  -- no line is left
  pub compared_all : lines ≡ 0 → LinesPut n junk left right start_used first out at used
  unfolding difference_clauses stored
  compared_all none =
      let done : lines_in lines n ≡ [] = ap (λ (x : ℕ). lines_in x n) none ∙ lines_none n in
      let all : counted_stored n junk left right start_used ≡ e.front =
      e.clauses_left ∙ ap (λ (ls : List ℕ). e.front ++ lines_stored left right used ls) done ∙ append-nil e.front in
      record {
        variables = omega (arith, e.number_left, ap length done);
        written = record { count = sym e.place ∙ ap length (sym all); buffer = e.buffer ∙ ap (λ (f : List ℤ). over f first) (sym all) };
      }

-- ---- the last clause

-- the OR's kind and count, and k of its literals
abbrev pub or_front : ℕ → ℕ → ℕ → List ℤ
or_front n used k = pos 0 ∷ pos n ∷ map plus (up_from (suc used) k)

or_long : (n used k : ℕ) → length (or_front n used k) ≡ k + 2
or_long n used k = omega (arith, length-map (up_from (suc used) k) plus, length_up_from (suc used) k)

or_more : (n used k : ℕ) → or_front n used k ++ (plus (used + 1 + k) ∷ []) ≡ or_front n used (k + 1)
or_more n used k =
    let a : used + 1 + k ≡ suc used + k = omega arith in
    let b : suc k ≡ k + 1 = omega arith in
    ap (λ (l : List ℤ). pos 0 ∷ pos n ∷ l)
    (ap (λ (x : ℕ). map plus (up_from (suc used) k) ++ (plus x ∷ [])) a
    ∙ sym (map-append plus (up_from (suc used) k) ((suc used + k) ∷ []))
    ∙ ap (map plus) (sym (up_from_more (suc used) k))
    ∙ ap (λ (m : ℕ). map plus (up_from (suc used) m)) b)

pub or_none : (n used : ℕ) (first : List ℤ) → over (or_front n used 0) first ≡ over (pos 0 ∷ pos n ∷ []) first
unfolding up_from
or_none n used first = refl

pub or_next : (n used : ℕ) (first out : List ℤ) (k : ℕ) (z : ℤ) → out ≡ over (or_front n used k) first → k + 2 < length first → z ≡ plus (used + 1 + k)
    → set out (k + 2) z ≡ over (or_front n used (k + 1)) first
or_next n used first out k z e room h =
    ap₂ (λ (o : List ℤ) (x : ℤ). set o (k + 2) x) e h
    ∙ over_push (or_front n used k) first (plus (used + 1 + k)) (k + 2) (or_long n used k) room
    ∙ ap (λ (l : List ℤ). over l first) (or_more n used k)

pub or_all : (n used : ℕ) → or_front n used n ≡ last_stored n used
unfolding stored
or_all n used =
    let ls = map plus (up_from (suc used) n) in
    let long : n ≡ length ls = sym (length-map (up_from (suc used) n) plus ∙ length_up_from (suc used) n) in
    ap₂ (λ (j : ℕ) (l : List ℤ). pos 0 ∷ pos j ∷ l) long (sym (append-nil ls))
