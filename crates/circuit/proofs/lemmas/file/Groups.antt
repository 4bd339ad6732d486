-- The laws of a group of mark lines: its text is read as its marks, and what is read is its text or the first offence of a line. Assumes nothing.
use Rattle.std.proofs.Common.{◌≡◌, ℕ, zero, suc, ◌+◌, ◌-◌, ◌%◌, ◌^◌, ◌<◌, ◌≤◌, Bool, true, false, cond, ◌&&◌, ◌||◌, eqb, ltb, List, [], ◌∷◌, ◌++◌, length, drop, sym, refl, ap, ◌∙◌, subst, ap₂, append_assoc, append-nil, arith, length-append, eq-eqb, ne_eqb, eqb-true, ltb-true, ltb-false, pow_pos, mod-lt, mod-eq_of_lt}
use Rattle.std.specs.List.{flat_map}
use Rattle.std.proofs.Math.Pow.{pow-lt}
use Rattle.std.proofs.lemmas.List.Concat.{flat_map-append}
use borrow.Author.Tests.{eqb-false}
use mathlib.Core.Bool.{or-false, and-true, and-false}
use lib.Bits.{bit_and, bit_or, or_zero_r, or_lt}
use Rattle.bits.specs.Digits.{bit, lines_in}
use Rattle.bits.proofs.Bools.{either, not_held, refuted, cond-true, cond-false}
use Rattle.bits.proofs.Digits.{bit-or, bit_pow, bit_none, bits_equal, bit_low, bit_above}
use Rattle.bits.proofs.Lowest.{lines_none}
use Rattle.circuit.specs.Gate.{max_lines}
use Rattle.circuit.specs.Outcome.{Outcome, served, refused}
use Rattle.circuit.specs.Text.{line_feed, number_text}
use Rattle.circuit.specs.File.{Line, first_line, later_lines, lines_of, line_size, starts_mark, Marks, no_marks, with_mark, mark_on, Group, group_from}
use Rattle.circuit.specs.FileLaws.{value_fields, MarkOffence}
use Rattle.circuit.specs.private.Put.{mark_line}
use Rattle.circuit.proofs.lemmas.Outcome.{then_served, then_refused}
use Rattle.circuit.proofs.lemmas.header.Marks.{below_lines, lines_below, within_lines, lines_within}
use Rattle.circuit.proofs.lemmas.file.Lines.{Cut, cut_first}
use Rattle.circuit.proofs.lemmas.file.MarkLines.{none_starts, mark_bytes, mark_whole, mark_line_lem, mark_parts, starts_with_word, MarkFound, good, bad, mark_found, mark_read}

-- ---- one line more in a mask

pub set_line : (x k : ℕ) (value : Bool) (j : ℕ) → bit (bit_or x (cond value (2 ^ k) 0)) j ≡ (bit x j || (value && eqb j k))
set_line x k true j = bit-or x (2 ^ k) j ∙ ap (λ (b : Bool). bit x j || b) (bit_pow k j)
set_line x k false j = bit-or x 0 j ∙ ap (λ (b : Bool). bit x j || b) (bit_none j)

-- a line other than k
pub set_other : (x k : ℕ) (value : Bool) (j : ℕ) → (j ≡ k → ⊥) → bit (bit_or x (cond value (2 ^ k) 0)) j ≡ bit x j
set_other x k value j h =
    set_line x k value j ∙ ap (λ (b : Bool). bit x j || (value && b)) (ne_eqb j k h) ∙ ap (λ (b : Bool). bit x j || b) (and-false value) ∙ or-false (bit x j)

pub set_here : (x k : ℕ) (value : Bool) → bit x k ≡ false → bit (bit_or x (cond value (2 ^ k) 0)) k ≡ value
set_here x k value h =
    set_line x k value k ∙ ap₂ (λ (a b : Bool). a || (value && b)) h (eq-eqb k k refl) ∙ and-true value

-- the lines of a mask below 2 ^ m are below m
pub lines_short : (x m n : ℕ) → x < 2 ^ m → lines_in x (m + n) ≡ lines_in x m
unfolding lines_in
lines_short x m zero h = let e : m + 0 ≡ m = omega arith in ap (lines_in x) e
lines_short x m (suc n) h =
    let e : m + suc n ≡ suc (m + n) = omega arith in
    ap (lines_in x) e
    ∙ ap₂ (λ (l : List ℕ) (b : Bool). l ++ cond b ((m + n) ∷ []) []) (lines_short x m n h) (bit_above m x (m + n) h (omega arith))
    ∙ append-nil (lines_in x m)

pub lines_within_lines : (x m n : ℕ) → x < 2 ^ m → m ≤ n → lines_in x n ≡ lines_in x m
lines_within_lines x m n h l = let e : n ≡ m + (n - m) = omega arith in ap (lines_in x) e ∙ lines_short x m (n - m) h

-- texts of the lines of two masks
pub texts_same : (f g : ℕ → List ℕ) (x y n : ℕ) → ((j : ℕ) → j < n → bit x j ≡ bit y j) → ((j : ℕ) → j < n → bit x j ≡ true → f j ≡ g j)
    → flat_map f (lines_in x n) ≡ flat_map g (lines_in y n)
unfolding lines_in
texts_same f g x y zero h s = refl
texts_same f g x y (suc n) h s =
    flat_map-append f (lines_in x n) (cond (bit x n) (n ∷ []) [])
    ∙ ap₂ ◌++◌ (texts_same f g x y n (λ j l. h j (omega arith)) (λ j l e. s j (omega arith) e))
    (either (bit x n)
    (λ e.
    ap (λ (b : Bool). flat_map f (cond b (n ∷ []) [])) e
    ∙ ap (λ (l : List ℕ). l ++ []) (s n (omega arith) e)
    ∙ sym (ap (λ (b : Bool). flat_map g (cond b (n ∷ []) [])) (sym (h n (omega arith)) ∙ e)))
    (λ e.
    ap (λ (b : Bool). flat_map f (cond b (n ∷ []) [])) e
    ∙ sym (ap (λ (b : Bool). flat_map g (cond b (n ∷ []) [])) (sym (h n (omega arith)) ∙ e))))
    ∙ sym (flat_map-append g (lines_in y n) (cond (bit y n) (n ∷ []) []))

pub lines_same : (x y n : ℕ) → ((j : ℕ) → j < n → bit x j ≡ bit y j) → lines_in x n ≡ lines_in y n
unfolding lines_in
lines_same x y zero h = refl
lines_same x y (suc n) h = ap₂ (λ (l : List ℕ) (b : Bool). l ++ cond b (n ∷ []) []) (lines_same x y n (λ j l. h j (omega arith))) (h n (omega arith))

-- a line above those of a mask
pub lines_more : (x k n : ℕ) → x < 2 ^ k → k < n → lines_in (bit_or x (2 ^ k)) n ≡ lines_in x n ++ (k ∷ [])
unfolding lines_in
lines_more x k n h l =
    let y : ℕ = bit_or x (2 ^ k) in
    let up : 2 ^ k < 2 ^ suc k = omega (arith, pow_pos k) in
    let below : y < 2 ^ suc k = or_lt (suc k) x (2 ^ k) (omega arith) up in
    lines_within_lines y (suc k) n below (omega arith)
    ∙ ap₂ (λ (a : List ℕ) (b : Bool). a ++ cond b (k ∷ []) []) (lines_same y x k (λ j m. set_other x k true j (λ e. omega arith))) (set_here x k true (bit_above k x k h (omega arith)))
    ∙ ap (λ (a : List ℕ). a ++ (k ∷ [])) (sym (lines_within_lines x k n h (omega arith)))

-- ---- the marks of a group

-- lines of the cascade; values on them, and none for junk lines
pub record MarksInside (constant : Bool) (n : ℕ) (m : Marks) : Type 0 where
  pub below : m.mask < 2 ^ n
  pub within : bit_and m.values m.mask ≡ m.values
  pub junk : constant ≡ false → m.values ≡ 0

pub none_inside : (constant : Bool) (n : ℕ) → MarksInside constant n no_marks
none_inside constant n = record { below = pow_pos n; within = refl; junk = λ e. refl }

-- their text, by rising line
abbrev pub group_text : Bool → ℕ → Marks → List ℕ
group_text constant n m = flat_map (λ k. mark_line constant k (bit m.values k)) (lines_in m.mask n)

abbrev pub group_count : ℕ → Marks → ℕ
group_count n m = length (lines_in m.mask n)

module _ (constant : Bool) (n : ℕ) (m : Marks) (inside : MarksInside constant n m) where
  values_below : (k : ℕ) → m.mask < 2 ^ k → bit m.values k ≡ false
  values_below k h =
      not_held (bit m.values k) (λ e. refuted (bit_above k m.mask k h (omega arith)) (within_lines m.values m.mask inside.within k e))

  module _ (k : ℕ) (value : Bool) (below : k < n) (above : m.mask < 2 ^ k) where
    pub count_more : group_count n (with_mark m k value) ≡ group_count n m + 1
    count_more = ap length (lines_more m.mask k n above below) ∙ length-append (lines_in m.mask n) (k ∷ [])

    pub text_more : group_text constant n (with_mark m k value) ≡ group_text constant n m ++ mark_line constant k value
    text_more =
        let v : ℕ = bit_or m.values (cond value (2 ^ k) 0) in
        let f : ℕ → List ℕ = λ j. mark_line constant j (bit v j) in
        let g : ℕ → List ℕ = λ j. mark_line constant j (bit m.values j) in
        ap (flat_map f) (lines_more m.mask k n above below)
        ∙ flat_map-append f (lines_in m.mask n) (k ∷ [])
        ∙ ap₂ ◌++◌
        (texts_same f g m.mask m.mask n (λ j l. refl) (λ j l e.
        ap (mark_line constant j) (set_other m.values k value j (λ q. let low = below_lines k m.mask above j e in omega arith))))
        (append-nil (mark_line constant k (bit v k)) ∙ ap (mark_line constant k) (set_here m.values k value (values_below k above)))

    pub inside_more : (constant ≡ false → value ≡ false) → MarksInside constant n (with_mark m k value)
    inside_more none =
        record {
          below = or_lt n m.mask (2 ^ k) inside.below (power_below k n below);
          within = lines_within _ _ (λ j e. either (eqb j k) (λ t. there j t) (λ t. other j t e));
          junk = λ e. ap₂ (λ (x : ℕ) (b : Bool). bit_or x (cond b (2 ^ k) 0)) (inside.junk e) (none e);
        }
      where
        power_below : (k n : ℕ) → k < n → 2 ^ k < 2 ^ n
        power_below k n l = pow-lt l

        there : (j : ℕ) → eqb j k ≡ true → bit (bit_or m.mask (2 ^ k)) j ≡ true
        there j t = set_line m.mask k true j ∙ ap (λ (b : Bool). bit m.mask j || b) t ∙ Rattle.bits.proofs.Bools.or_right (bit m.mask j) refl

        other : (j : ℕ) → eqb j k ≡ false → bit (bit_or m.values (cond value (2 ^ k) 0)) j ≡ true → bit (bit_or m.mask (2 ^ k)) j ≡ true
        other j t e =
            let ne : j ≡ k → ⊥ = eqb-false j k t in
            set_other m.mask k true j ne ∙ within_lines m.values m.mask inside.within j (sym (set_other m.values k value j ne) ∙ e)

-- ---- one line of the group

module _ (constant : Bool) (n i at : ℕ) (m : Marks) where
  pub group_step : (l : Line) (ls : List Line) → starts_mark constant l ≡ true → (more : Marks) → mark_on constant n i m l ≡ served more
      → group_from constant n i at m (l ∷ ls) ≡ group_from constant n (i + 1) (at + line_size l) more ls
  unfolding group_from
  group_step l ls s more e = cond-true (starts_mark constant l) _ _ s ∙ then_served _ _ more e

  pub group_wrong : (l : Line) (ls : List Line) → starts_mark constant l ≡ true → (number place : ℕ) → mark_on constant n i m l ≡ refused number place
      → group_from constant n i at m (l ∷ ls) ≡ refused number place
  unfolding group_from
  group_wrong l ls s number place e = cond-true (starts_mark constant l) _ _ s ∙ then_refused _ _ number place e

  pub group_stops : (ls : List Line) → starts_mark constant (first_line ls) ≡ false → group_from constant n i at m ls ≡ served (record { marks = m; line = i; at = at; left = ls })
  unfolding group_from
  group_stops [] s = refl
  group_stops (l ∷ ls) s = cond-false (starts_mark constant l) _ _ s

  -- the line of one mark more
  pub group_mark : n ≤ max_lines → (k : ℕ) (value : Bool) → k < n → m.mask < 2 ^ k → (constant ≡ false → value ≡ false) → (r : List ℕ)
      → group_from constant n i at m (lines_of (mark_line constant k value ++ r))
      ≡ group_from constant n (i + 1) (at + length (mark_line constant k value)) (with_mark m k value) (lines_of r)
  group_mark high k value below above none r =
      let l : Line = record { bytes = mark_bytes constant k value; ended = true } in
      let size : length (mark_line constant k value) ≡ line_size l = ap length (mark_whole constant k value) ∙ length-append (mark_bytes constant k value) (line_feed ∷ []) in
      ap (group_from constant n i at m) (mark_line_lem constant k value r (omega arith))
      ∙ group_step l (lines_of r) (starts_with_word constant (number_text k) (value_fields constant value) l (mark_parts constant k value (omega arith))) (with_mark m k value)
      (mark_read constant n i m k value below high above none)
      ∙ ap (λ (s : ℕ). group_from constant n (i + 1) (at + s) (with_mark m k value) (lines_of r)) (sym size)

-- ---- the text of marks is read as those marks

-- the lines below p + 1 of a mask are those below p, and p where it is one
low_step : (x p : ℕ) → x % 2 ^ suc p ≡ bit_or (x % 2 ^ p) (cond (bit x p) (2 ^ p) 0)
low_step x p =
    bits_equal _ _ (λ j.
    either (ltb j p)
    (λ t.
    let l : j < p = ltb-true j p t in
    bit_low (suc p) x j (omega arith) ∙ sym (set_other (x % 2 ^ p) p (bit x p) j (λ e. omega arith) ∙ bit_low p x j l))
    (λ t.
    let l : p ≤ j = ltb-false j p t in
    either (eqb j p)
    (λ u.
    let e : j ≡ p = eqb-true j p u in
    ap (bit (x % 2 ^ suc p)) e
    ∙ bit_low (suc p) x p (omega arith)
    ∙ sym (set_here (x % 2 ^ p) p (bit x p) (bit_above p (x % 2 ^ p) p (mod-lt x (pow_pos p)) (omega arith)))
    ∙ sym (ap (bit (bit_or (x % 2 ^ p) (cond (bit x p) (2 ^ p) 0))) e))
    (λ u.
    let ne : j ≡ p → ⊥ = eqb-false j p u in
    let h : suc p ≤ j = above p j l ne in
    bit_above (suc p) (x % 2 ^ suc p) j (mod-lt x (pow_pos (suc p))) h
    ∙ sym (set_other (x % 2 ^ p) p (bit x p) j ne ∙ bit_above p (x % 2 ^ p) j (mod-lt x (pow_pos p)) l))))
  where
    above : (p j : ℕ) → p ≤ j → (j ≡ p → ⊥) → suc p ≤ j
    above p j l ne = omega arith

module _ (constant : Bool) (n : ℕ) (high : n ≤ max_lines) (m : Marks) (inside : MarksInside constant n m) (first at : ℕ) where
  abbrev line_text : ℕ → List ℕ
  line_text k = mark_line constant k (bit m.values k)

  -- the marks below p
  abbrev low : ℕ → Marks
  low p = record { mask = m.mask % 2 ^ p; values = m.values % 2 ^ p }

  no_value : (k : ℕ) → constant ≡ false → bit m.values k ≡ false
  no_value k e = ap (λ (x : ℕ). bit x k) (inside.junk e) ∙ bit_none k

  low_marked : (p : ℕ) → bit m.mask p ≡ true → with_mark (low p) p (bit m.values p) ≡ low (suc p)
  low_marked p e =
      ap₂ (λ (x y : ℕ). record { mask = x; values = y }) (sym (low_step m.mask p ∙ ap (λ (b : Bool). bit_or (m.mask % 2 ^ p) (cond b (2 ^ p) 0)) e)) (sym (low_step m.values p))

  low_skipped : (x p : ℕ) → bit x p ≡ false → x % 2 ^ p ≡ x % 2 ^ suc p
  low_skipped x p e = sym (low_step x p ∙ ap (λ (b : Bool). bit_or (x % 2 ^ p) (cond b (2 ^ p) 0)) e ∙ or_zero_r (x % 2 ^ p))

  low_unmarked : (p : ℕ) → bit m.mask p ≡ false → low p ≡ low (suc p)
  low_unmarked p e =
      ap₂ (λ (x y : ℕ). record { mask = x; values = y }) (low_skipped m.mask p e)
      (low_skipped m.values p (not_held _ (λ t. refuted e (within_lines m.values m.mask inside.within p t))))

  -- the lines ls of the mask are read, and leave the marks l
  ReadTo : List ℕ → Marks → Type 0
  ReadTo ls l = (r : List ℕ) → group_from constant n first at no_marks (lines_of (flat_map line_text ls ++ r))
      ≡ group_from constant n (first + length ls) (at + length (flat_map line_text ls)) l (lines_of r)

  read_none : ReadTo [] (low 0)
  unfolding ReadTo
  read_none r =
      let i : first ≡ first + 0 = omega arith in
      let a : at ≡ at + 0 = omega arith in
      let x : 0 ≡ m.mask % 1 = omega arith in
      let y : 0 ≡ m.values % 1 = omega arith in
      ap₂ (λ (i a : ℕ). group_from constant n i a no_marks (lines_of r)) i a
      ∙ ap₂ (λ (x y : ℕ). group_from constant n (first + 0) (at + 0) (record { mask = x; values = y }) (lines_of r)) x y

  read_marked : (p : ℕ) → p < n → (ls : List ℕ) → ReadTo ls (low p) → bit m.mask p ≡ true → ReadTo (ls ++ (p ∷ [])) (low (suc p))
  unfolding ReadTo
  read_marked p below ls rec e r =
      let t : List ℕ = flat_map line_text ls in
      let u : List ℕ = line_text p in
      let all : List ℕ = ls ++ (p ∷ []) in
      let more : flat_map line_text all ≡ t ++ u = flat_map-append line_text ls (p ∷ []) ∙ ap (λ (x : List ℕ). t ++ x) (append-nil u) in
      let i : first + length ls + 1 ≡ first + length all = omega (arith, length-append ls (p ∷ [])) in
      let a : at + length t + length u ≡ at + length (flat_map line_text all) = omega (arith, ap length more, length-append t u) in
      ap (λ (x : List ℕ). group_from constant n first at no_marks (lines_of (x ++ r))) more
      ∙ ap (λ (x : List ℕ). group_from constant n first at no_marks (lines_of x)) (append_assoc t u r)
      ∙ rec (u ++ r)
      ∙ group_mark constant n (first + length ls) (at + length t) (low p) high p (bit m.values p) below (mod-lt m.mask (pow_pos p)) (no_value p) r
      ∙ ap₂ (λ (i a : ℕ). group_from constant n i a (with_mark (low p) p (bit m.values p)) (lines_of r)) i a
      ∙ ap (λ (x : Marks). group_from constant n (first + length all) (at + length (flat_map line_text all)) x (lines_of r)) (low_marked p e)

  read_to : (p : ℕ) → p ≤ n → ReadTo (lines_in m.mask p) (low p)
  unfolding lines_in
  read_to zero l = read_none
  read_to (suc p) l =
      either (bit m.mask p)
      (λ e. subst (λ (b : Bool). ReadTo (lines_in m.mask p ++ cond b (p ∷ []) []) (low (suc p))) (sym e) (read_marked p (omega arith) (lines_in m.mask p) (read_to p (omega arith)) e))
      (λ e.
      subst (λ (b : Bool). ReadTo (lines_in m.mask p ++ cond b (p ∷ []) []) (low (suc p))) (sym e)
      (subst (λ (ls : List ℕ). ReadTo ls (low (suc p))) (sym (append-nil (lines_in m.mask p))) (subst (ReadTo (lines_in m.mask p)) (low_unmarked p e) (read_to p (omega arith)))))

  pub group_read : (r : List ℕ) → group_from constant n first at no_marks (lines_of (group_text constant n m ++ r))
      ≡ group_from constant n (first + group_count n m) (at + length (group_text constant n m)) m (lines_of r)
  unfolding ReadTo
  group_read r =
      let within_values : m.values < 2 ^ n = lines_below n m.values (λ k e. below_lines n m.mask inside.below k (within_lines m.values m.mask inside.within k e)) in
      read_to n (omega arith) r
      ∙ ap₂ (λ (x y : ℕ). group_from constant n (first + group_count n m) (at + length (group_text constant n m)) (record { mask = x; values = y }) (lines_of r))
      (mod-eq_of_lt inside.below) (mod-eq_of_lt within_values)

-- ---- what is read is their text

-- a text that was walked from its start, line `first` and `at` bytes: a group's text and then no line of it, or an offence
pub data GroupFound (constant : Bool) (n first at : ℕ) (text : List ℕ) : Outcome Group → Type 0 where
  whole_group : (m : Marks) (r : List ℕ) → MarksInside constant n m → text ≡ group_text constant n m ++ r → starts_mark constant (first_line (lines_of r)) ≡ false
      → GroupFound constant n first at text (served (record { marks = m; line = first + group_count n m; at = at + length (group_text constant n m); left = lines_of r }))
  mark_wrong : (m : Marks) (r : List ℕ) → MarksInside constant n m → text ≡ group_text constant n m ++ r
      → (number : ℕ) → MarkOffence constant n m.mask (first_line (lines_of r)) number → GroupFound constant n first at text (refused number (first + group_count n m))

module _ (constant : Bool) (n first at : ℕ) (text : List ℕ) where
  abbrev at_marks : Marks → List Line → Outcome Group
  at_marks m ls = group_from constant n (first + group_count n m) (at + length (group_text constant n m)) m ls

  -- the group ends before the lines ls
  walked_stop : (ls : List Line) (m : Marks) (r : List ℕ) → lines_of r ≡ ls → MarksInside constant n m → text ≡ group_text constant n m ++ r
      → starts_mark constant (first_line ls) ≡ false → GroupFound constant n first at text (at_marks m ls)
  walked_stop ls m r e inside t s =
      subst (GroupFound constant n first at text)
      (ap (λ (x : List Line). served (record { marks = m; line = first + group_count n m; at = at + length (group_text constant n m); left = x })) e
      ∙ sym (group_stops constant n (first + group_count n m) (at + length (group_text constant n m)) m ls s))
      (whole_group m r inside t (ap (λ (x : List Line). starts_mark constant (first_line x)) e ∙ s))

  -- one line of it
  walked_line : (l : Line) (ls : List Line) (m : Marks) (r : List ℕ) → lines_of r ≡ l ∷ ls → MarksInside constant n m → text ≡ group_text constant n m ++ r → starts_mark constant l ≡ true
      → ((p : Marks) (rest : List ℕ) → lines_of rest ≡ ls → MarksInside constant n p → text ≡ group_text constant n p ++ rest → GroupFound constant n first at text (at_marks p ls))
      → (o : Outcome Marks) → MarkFound constant n (first + group_count n m) m l o → mark_on constant n (first + group_count n m) m l ≡ o
      → GroupFound constant n first at text (at_marks m (l ∷ ls))
  walked_line l ls m r e inside t s rec o (bad number x) q =
      let i : ℕ = first + group_count n m in
      subst (GroupFound constant n first at text) (sym (group_wrong constant n i (at + length (group_text constant n m)) m l ls s number i q))
      (mark_wrong m r inside t number (subst (λ (y : Line). MarkOffence constant n m.mask y number) (sym (ap first_line e)) x))
  walked_line l ls m r e inside t s rec o (good k value below above none b d) q =
      let i : ℕ = first + group_count n m in
      let a : ℕ = at + length (group_text constant n m) in
      let c : Cut r l ls = subst (λ (x : List Line). Cut r (first_line x) (later_lines x)) e (cut_first r (ap (λ (x : List Line). (first_line x).ended) e ∙ d)) in
      let p : Marks = with_mark m k value in
      let u : List ℕ = mark_line constant k value in
      let left : List ℕ = drop (line_size l) r in
      let size : length u ≡ line_size l =
      ap length (mark_whole constant k value) ∙ length-append (mark_bytes constant k value) (line_feed ∷ []) ∙ ap (λ (x : List ℕ). length x + 1) (sym b) in
      let rest : r ≡ u ++ left =
      c.text
      ∙ ap (λ (x : List ℕ). x ++ (line_feed ∷ left)) b
      ∙ sym (append_assoc (mark_bytes constant k value) (line_feed ∷ []) left)
      ∙ ap (λ (x : List ℕ). x ++ left) (sym (mark_whole constant k value)) in
      let whole : group_text constant n p ≡ group_text constant n m ++ u = text_more constant n m inside k value below above in
      let j : first + group_count n p ≡ i + 1 = omega (arith, count_more constant n m inside k value below above) in
      let z : at + length (group_text constant n p) ≡ a + line_size l = omega (arith, ap length whole, length-append (group_text constant n m) u) in
      subst (GroupFound constant n first at text) (ap₂ (λ (x y : ℕ). group_from constant n x y p ls) j z ∙ sym (group_step constant n i a m l ls s p q))
      (rec p left c.later (inside_more constant n m inside k value below above none)
      (t
      ∙ ap (λ (x : List ℕ). group_text constant n m ++ x) rest
      ∙ sym (append_assoc (group_text constant n m) u left)
      ∙ ap (λ (x : List ℕ). x ++ left) (sym whole)))

  pub walked_group : (ls : List Line) (m : Marks) (r : List ℕ) → lines_of r ≡ ls → MarksInside constant n m → text ≡ group_text constant n m ++ r
      → GroupFound constant n first at text (at_marks m ls)
  walked_group [] m r e inside t = walked_stop [] m r e inside t (none_starts constant)
  walked_group (l ∷ ls) m r e inside t =
      either (starts_mark constant l)
      (λ s.
      walked_line l ls m r e inside t s (walked_group ls) (mark_on constant n (first + group_count n m) m l) (mark_found constant n (first + group_count n m) m l s) refl)
      (walked_stop (l ∷ ls) m r e inside t)

  -- from the start of the group
  pub group_found : GroupFound constant n first at text (group_from constant n first at no_marks (lines_of text))
  group_found =
      let e : lines_in 0 n ≡ [] = lines_none n in
      let f : ℕ → List ℕ = λ k. mark_line constant k (bit 0 k) in
      let i : first + length (lines_in 0 n) ≡ first = omega (arith, ap length e) in
      let a : at + length (flat_map f (lines_in 0 n)) ≡ at = omega (arith, ap (λ (l : List ℕ). length (flat_map f l)) e) in
      subst (GroupFound constant n first at text) (ap₂ (λ (x y : ℕ). group_from constant n x y no_marks (lines_of text)) i a)
      (walked_group (lines_of text) no_marks text refl (none_inside constant n) (ap (λ (l : List ℕ). flat_map f l ++ text) (sym e)))
