-- The laws of a mark line, of a constant or else of a junk line: its text is read as its mark, and what is read of a line is its text or its first offence. Assumes nothing.
use Rattle.std.proofs.Common.{◌≡◌, ℕ, ◌+◌, ◌*◌, ◌/◌, ◌^◌, ◌<◌, ◌≤◌, Bool, true, false, cond, not, ◌&&◌, ◌||◌, eqb, ltb, List, [], ◌∷◌, ◌++◌, sym, refl, ap, ◌∙◌, subst, ap₂, append_assoc, append-nil, arith, ltb-false, ltb-true, lt-ltb, le-ltb, pow_pos, div-lt_iff_lt-mul, ◌≢◌}
use Rattle.std.proofs.lemmas.Nat.{ones-le}
use mathlib.Core.Bool.{false≢true}
use mathlib.Core.List.{head-eq_of_cons-eq, nil≢cons, cons≢nil, tail-eq_of_cons-eq}
use Rattle.bits.specs.Digits.{bit}
use Rattle.bits.proofs.Bools.{either, both, not_held, refuted, and_second, or_right, or_left, none_or}
use Rattle.bits.proofs.Digits.{bit_some, bit_shifted}
use Rattle.bits.proofs.Lists.{free, free_append}
use Rattle.bits.proofs.Single.{ones_zero}
use Rattle.circuit.specs.declared.header.Header.{Header}
use Rattle.circuit.specs.Gate.{max_lines}
use Rattle.circuit.specs.Header.{unmarked, marks_good}
use Rattle.circuit.specs.Outcome.{Outcome, served, refused, demand, and_then}
use Rattle.circuit.specs.Refusal.{wrong_form, bad_mark}
use Rattle.circuit.specs.Text.{tab, line_feed, digit, number_text}
use Rattle.circuit.specs.File.{Line, no_line, lines_of, parted_by, fields_of, same, number_of, mark_word, starts_fields, starts_mark, Marks, with_mark, mark_number, mark_value, mark_fields, mark_on, mark_lines}
use Rattle.circuit.specs.FileLaws as laws
use Rattle.circuit.specs.FileLaws.{NumberField, value_fields, MarkOffence}
use Rattle.circuit.specs.private.Put.{mark_line}
use Rattle.circuit.proofs.lemmas.Outcome.{never, demand_met, demand_failed, then_served, then_refused}
use Rattle.circuit.proofs.lemmas.header.Marks.{marks_facts, below_lines, lines_below}
use Rattle.circuit.proofs.lemmas.file.Lines.{lines_cut, parts_cut, parts_joined, parts_back, separated, whole, all_free, same_true, same_self, true_same}
use Rattle.circuit.proofs.lemmas.file.Numbers.{number_free}
use Rattle.circuit.proofs.lemmas.file.Offences.{number_field, field_number, no_number}

-- ---- the number of mark lines

-- without marks there is none
pub no_mark_lines : (n : ℕ) → mark_lines (unmarked n) ≡ 0
no_mark_lines n = omega (arith, ones_zero)

-- there are at most two for each line
pub mark_lines_few : (h : Header) → marks_good h ≡ true → mark_lines h ≤ 2 * h.lines
mark_lines_few h good =
    let (c, j, v) = marks_facts h good in
    omega (arith, ones-le h.lines h.constants c, ones-le h.lines h.junk j)

-- ---- a mark line's bytes

-- what follows its line number
abbrev pub value_bytes : Bool → Bool → List ℕ
value_bytes constant value = cond constant (tab ∷ digit (cond value 1 0) ∷ []) []

-- all of it but its LF
abbrev pub mark_bytes : Bool → ℕ → Bool → List ℕ
mark_bytes constant k value = mark_word constant ++ (tab ∷ (number_text k ++ value_bytes constant value))

-- with its LF
pub mark_whole : (constant : Bool) (k : ℕ) (value : Bool) → mark_line constant k value ≡ mark_bytes constant k value ++ (line_feed ∷ [])
mark_whole true k value = ap (λ (l : List ℕ). 99 ∷ 111 ∷ 110 ∷ 115 ∷ 116 ∷ tab ∷ l) (sym (append_assoc (number_text k) (tab ∷ digit (cond value 1 0) ∷ []) (line_feed ∷ [])))
mark_whole false k value = ap (λ (l : List ℕ). 106 ∷ 117 ∷ 110 ∷ 107 ∷ tab ∷ (l ++ (line_feed ∷ []))) (sym (append-nil (number_text k)))

word_free : (s : ℕ) (constant : Bool) → s < 48 → free s (mark_word constant) ≡ true
unfolding free
word_free s constant h = go constant
  where
    other : (b : ℕ) → 48 ≤ b → not (eqb b s) ≡ true
    other b l = ap not (borrow.Author.Tests.ne_eqb b s (λ e. omega arith))

    go : (constant : Bool) → free s (mark_word constant) ≡ true
    go true = both (other 99 (omega arith)) (both (other 111 (omega arith)) (both (other 110 (omega arith)) (both (other 115 (omega arith)) (both (other 116 (omega arith)) refl))))
    go false = both (other 106 (omega arith)) (both (other 117 (omega arith)) (both (other 110 (omega arith)) (both (other 107 (omega arith)) refl)))

-- the value is a field after a tab
value_parted : (constant value : Bool) → value_bytes constant value ≡ separated tab (value_fields constant value)
unfolding separated
value_parted true value = refl
value_parted false value = refl

value_free : (s : ℕ) (constant value : Bool) → s < 48 → all_free s (value_fields constant value) ≡ true
unfolding all_free free
value_free s false value h = refl
value_free s true true h = both (both (ap not (borrow.Author.Tests.ne_eqb 49 s (λ e. omega arith))) refl) refl
value_free s true false h = both (both (ap not (borrow.Author.Tests.ne_eqb 48 s (λ e. omega arith))) refl) refl

-- its fields
pub mark_parts : (constant : Bool) (k : ℕ) (value : Bool) → k < 100 → fields_of (mark_bytes constant k value) ≡ mark_word constant ∷ number_text k ∷ value_fields constant value
mark_parts constant k value h =
    parts_cut tab (mark_word constant) (number_text k ++ value_bytes constant value) (word_free tab constant (omega arith))
    ∙ ap (λ (l : List (List ℕ)). mark_word constant ∷ l)
    (ap (λ (x : List ℕ). fields_of (number_text k ++ x)) (value_parted constant value)
    ∙ parts_joined tab (number_text k) (value_fields constant value) (number_free tab k (omega arith) h) (value_free tab constant value (omega arith)))

-- and back
pub parts_mark : (constant : Bool) (k : ℕ) (value : Bool) (bs : List ℕ) → fields_of bs ≡ mark_word constant ∷ number_text k ∷ value_fields constant value → bs ≡ mark_bytes constant k value
unfolding separated
parts_mark constant k value bs e =
    sym (parts_back tab bs)
    ∙ ap (whole tab) e
    ∙ ap (λ (x : List ℕ). mark_word constant ++ (tab ∷ (number_text k ++ x))) (sym (value_parted constant value))

value_fed : (constant value : Bool) → free line_feed (value_bytes constant value) ≡ true
unfolding free
value_fed false value = refl
value_fed true true = refl
value_fed true false = refl

-- the line of a mark, and what follows it
pub mark_line_lem : (constant : Bool) (k : ℕ) (value : Bool) (r : List ℕ) → k < 100
    → lines_of (mark_line constant k value ++ r) ≡ record { bytes = mark_bytes constant k value; ended = true } ∷ lines_of r
unfolding free
mark_line_lem constant k value r h =
    ap (λ (x : List ℕ). lines_of (x ++ r)) (mark_whole constant k value)
    ∙ ap lines_of (append_assoc (mark_bytes constant k value) (line_feed ∷ []) r)
    ∙ lines_cut (mark_bytes constant k value) r
    (free_append line_feed (mark_word constant) (tab ∷ (number_text k ++ value_bytes constant value)) (word_free line_feed constant (omega arith))
    (free_append line_feed (number_text k) (value_bytes constant value) (number_free line_feed k (omega arith) h) (value_fed constant value)))

-- whether it starts with a mark's word
pub none_starts : (constant : Bool) → starts_mark constant no_line ≡ false
unfolding starts_fields parted_by
none_starts constant = refl

pub starts_with_word : (constant : Bool) (f : List ℕ) (fs : List (List ℕ)) (l : Line) → fields_of l.bytes ≡ mark_word constant ∷ f ∷ fs → starts_mark constant l ≡ true
unfolding starts_fields
starts_with_word constant f fs l e = ap (starts_fields (mark_word constant)) e ∙ same_self (mark_word constant)

pub starts_parts : (word f k : List ℕ) (fs : List (List ℕ)) (bs : List ℕ) → fields_of bs ≡ f ∷ k ∷ fs → starts_fields word (fields_of bs) ≡ same f word
unfolding starts_fields
starts_parts word f k fs bs e = ap (starts_fields word) e

pub words_apart : same (mark_word false) (mark_word true) ≡ false
unfolding same
words_apart = refl

-- ---- its line number

-- a mask that is not below 2 ^ k has a line at k or above
line_not_below : (k mask : ℕ) → ltb mask (2 ^ k) ≡ false → (j : ℕ) × (bit mask j ≡ true) × (k ≤ j)
line_not_below k mask e =
    let (j, b) = bit_some (mask / 2 ^ k) (λ z. refuted e (lt-ltb mask (2 ^ k) (small mask (2 ^ k) (pow_pos k) z))) in
    (k + j, sym (bit_shifted k mask j) ∙ b, omega arith)
  where
    small : (x d : ℕ) → 0 < d → x / d ≡ 0 → x < d
    small x d p z = omega (arith, (div-lt_iff_lt-mul {k = d} {x = x} {y = 1} p).0 (omega arith))

-- what is told of the field after the word: a line that may stand there, one that may not, or no number
pub data MarkNumber (n i mask : ℕ) (f : List ℕ) : Outcome ℕ → Type 0 where
  fits : (k : ℕ) → NumberField f k → k < n → mask < 2 ^ k → MarkNumber n i mask f (served k)
  high : (k : ℕ) → NumberField f k → n ≤ k → MarkNumber n i mask f (refused bad_mark i)
  low : (k : ℕ) → NumberField f k → k < n → (j : ℕ) → bit mask j ≡ true → k ≤ j → MarkNumber n i mask f (refused bad_mark i)
  none : ((k : ℕ) → NumberField f k → ⊥) → MarkNumber n i mask f (refused wrong_form i)

module _ (n i mask : ℕ) (f : List ℕ) where
  pub number_found : MarkNumber n i mask f (mark_number n i mask f)
  unfolding mark_number
  number_found = go (number_of i f) refl
    where
      go : (o : Outcome ℕ) → number_of i f ≡ o → MarkNumber n i mask f (and_then o (λ k. demand (ltb k n && ltb mask (2 ^ k)) bad_mark i (served k)))
      go (refused number place) q =
          subst (MarkNumber n i mask f) (sym (no_number i f (λ k h. never (field_number i f k h) q)) ∙ q) (none (λ k h. never (field_number i f k h) q))
      go (served k) q =
          let h = number_field i f k q in
          either (ltb k n)
          (λ l.
          either (ltb mask (2 ^ k))
          (λ r. subst (MarkNumber n i mask f) (sym (demand_met {A = ℕ} _ _ _ _ (both l r))) (fits k h (ltb-true k n l) (ltb-true mask (2 ^ k) r)))
          (λ r.
          let (j, b, a) = line_not_below k mask r in
          subst (MarkNumber n i mask f) (sym (demand_failed {A = ℕ} _ _ _ _ (and_second (ltb k n) r))) (low k h (ltb-true k n l) j b a)))
          (λ l.
          subst (MarkNumber n i mask f) (sym (demand_failed {A = ℕ} _ _ _ _ (ap (λ (b : Bool). b && ltb mask (2 ^ k)) l))) (high k h (ltb-false k n l)))

  module _ (k : ℕ) (h : NumberField f k) where
    pub number_fits : k < n → mask < 2 ^ k → mark_number n i mask f ≡ served k
    unfolding mark_number
    number_fits l r = then_served _ _ k (field_number i f k h) ∙ demand_met _ _ _ _ (both (lt-ltb k n l) (lt-ltb mask (2 ^ k) r))

    pub number_high : n ≤ k → mark_number n i mask f ≡ refused bad_mark i
    unfolding mark_number
    number_high l =
        then_served _ _ k (field_number i f k h) ∙ demand_failed _ _ _ _ (ap (λ (b : Bool). b && ltb mask (2 ^ k)) (le-ltb k n l))

    pub number_low : (j : ℕ) → bit mask j ≡ true → k ≤ j → mark_number n i mask f ≡ refused bad_mark i
    unfolding mark_number
    number_low j b a =
        then_served _ _ k (field_number i f k h)
        ∙ demand_failed _ _ _ _ (and_second (ltb k n) (not_held _ (λ t. let below = below_lines k mask (ltb-true mask (2 ^ k) t) j b in omega arith)))

  pub number_none : ((k : ℕ) → NumberField f k → ⊥) → mark_number n i mask f ≡ refused wrong_form i
  unfolding mark_number
  number_none h = then_refused _ _ wrong_form i (no_number i f h)

-- ---- its value

pub data ValueFound (constant : Bool) (i : ℕ) (fs : List (List ℕ)) : Outcome Bool → Type 0 where
  is : (value : Bool) → (constant ≡ false → value ≡ false) → fs ≡ value_fields constant value → ValueFound constant i fs (served value)
  is_none : ((value : Bool) → fs ≡ value_fields constant value → ⊥) → ValueFound constant i fs (refused wrong_form i)

module _ (i : ℕ) where
  one_field : (f : List ℕ) → ValueFound true i (f ∷ []) (demand (same f (digit 0 ∷ []) || same f (digit 1 ∷ [])) wrong_form i (served (same f (digit 1 ∷ []))))
  unfolding same
  one_field f =
      either (same f (digit 1 ∷ []))
      (λ t.
      subst (ValueFound true i (f ∷ [])) (ap served (sym t) ∙ sym (demand_met {A = Bool} _ _ _ _ (or_right (same f (digit 0 ∷ [])) t)))
      (is true (λ e. absurd (false≢true (sym e))) (ap (λ (x : List ℕ). x ∷ []) (same_true f (digit 1 ∷ []) t))))
      (λ t.
      either (same f (digit 0 ∷ []))
      (λ u.
      subst (ValueFound true i (f ∷ [])) (ap served (sym t) ∙ sym (demand_met {A = Bool} _ _ _ _ (or_left (same f (digit 1 ∷ [])) u)))
      (is false (λ e. refl) (ap (λ (x : List ℕ). x ∷ []) (same_true f (digit 0 ∷ []) u))))
      (λ u.
      subst (ValueFound true i (f ∷ [])) (sym (demand_failed {A = Bool} _ _ _ _ (none_or u t)))
      (is_none (λ value e. neither value u t (head-eq_of_cons-eq e)))))
    where
      neither : (value : Bool) → same f (digit 0 ∷ []) ≡ false → same f (digit 1 ∷ []) ≡ false → f ≡ digit (cond value 1 0) ∷ [] → ⊥
      neither true u t e = refuted t (true_same f (digit 1 ∷ []) e)
      neither false u t e = refuted u (true_same f (digit 0 ∷ []) e)

  pub value_found : (constant : Bool) (fs : List (List ℕ)) → ValueFound constant i fs (mark_value constant i fs)
  unfolding mark_value
  value_found true [] = is_none (λ value e. nil≢cons e)
  value_found false [] = is false (λ e. refl) refl
  value_found true (f ∷ []) = one_field f
  value_found false (f ∷ []) = is_none (λ value e. cons≢nil e)
  value_found true (f ∷ x ∷ fs) = is_none (λ value e. cons≢nil (tail-eq_of_cons-eq e))
  value_found false (f ∷ x ∷ fs) = is_none (λ value e. cons≢nil e)

  pub value_good : (constant value : Bool) → (constant ≡ false → value ≡ false) → mark_value constant i (value_fields constant value) ≡ served value
  unfolding mark_value same
  value_good true true h = refl
  value_good true false h = refl
  value_good false value h = ap served (sym (h refl))

  -- a value that is none, or a missing LF
  pub value_open : (constant ended : Bool) (fs : List (List ℕ)) {A : Type 0} (a : Bool → A) → ((value : Bool) → fs ≡ value_fields constant value → ended ≢ true)
      → and_then (mark_value constant i fs) (λ value. demand ended wrong_form i (served (a value))) ≡ refused wrong_form i
  value_open constant ended fs a h = go (mark_value constant i fs) (value_found constant fs)
    where
      go : (o : Outcome Bool) → ValueFound constant i fs o → and_then o (λ value. demand ended wrong_form i (served (a value))) ≡ refused wrong_form i
      go o (is value g e) = demand_failed _ _ _ _ (not_held ended (h value e))
      go o (is_none g) = refl

-- ---- the whole line

pub data MarkFound (constant : Bool) (n i : ℕ) (m : Marks) (l : Line) : Outcome Marks → Type 0 where
  good : (k : ℕ) (value : Bool) → k < n → m.mask < 2 ^ k → (constant ≡ false → value ≡ false) → l.bytes ≡ mark_bytes constant k value → l.ended ≡ true
      → MarkFound constant n i m l (served (with_mark m k value))
  bad : (number : ℕ) → MarkOffence constant n m.mask l number → MarkFound constant n i m l (refused number i)

module _ (constant : Bool) (n i : ℕ) (m : Marks) where
  module _ (l : Line) (f : List ℕ) (fs : List (List ℕ)) (e : fields_of l.bytes ≡ mark_word constant ∷ f ∷ fs) where
    ended_found : (k : ℕ) → NumberField f k → k < n → m.mask < 2 ^ k → (o : Outcome Bool) → ValueFound constant i fs o
        → MarkFound constant n i m l (and_then o (λ value. demand l.ended wrong_form i (served (with_mark m k value))))
    ended_found k h below above o (is value g q) =
        either l.ended
        (λ d.
        subst (MarkFound constant n i m l) (sym (demand_met {A = Marks} _ _ _ _ d))
        (good k value below above g (parts_mark constant k value l.bytes (e ∙ ap₂ (λ (x : List ℕ) (y : List (List ℕ)). mark_word constant ∷ x ∷ y) h.text q)) d))
        (λ d.
        subst (MarkFound constant n i m l) (sym (demand_failed {A = Marks} _ _ _ _ d))
        (bad wrong_form (laws.mark_no_end f fs e k h below (below_lines k m.mask above) (λ v x y. refuted d y))))
    ended_found k h below above o (is_none g) =
        bad wrong_form (laws.mark_no_end f fs e k h below (below_lines k m.mask above) (λ v x y. g v x))

    fields_found : (o : Outcome ℕ) → MarkNumber n i m.mask f o
        → MarkFound constant n i m l (and_then o (λ k. and_then (mark_value constant i fs) (λ value. demand l.ended wrong_form i (served (with_mark m k value)))))
    fields_found o (fits k h below above) = ended_found k h below above (mark_value constant i fs) (value_found i constant fs)
    fields_found o (high k h a) = bad bad_mark (laws.beyond f fs e k h a)
    fields_found o (low k h below j b a) = bad bad_mark (laws.mark_not_rising f fs e k h below j b a)
    fields_found o (none h) = bad wrong_form (laws.no_mark_line f fs e h)

  pub mark_found : (l : Line) → starts_mark constant l ≡ true → MarkFound constant n i m l (mark_on constant n i m l)
  unfolding starts_fields mark_fields
  mark_found l s = go (fields_of l.bytes) refl (sym (ap (starts_fields (mark_word constant)) refl) ∙ s)
    where
      go : (fs : List (List ℕ)) → fields_of l.bytes ≡ fs → starts_fields (mark_word constant) fs ≡ true → MarkFound constant n i m l (mark_fields constant n i m l.ended fs)
      go [] e t = absurd (false≢true t)
      go (f ∷ []) e t = absurd (false≢true t)
      go (f ∷ k ∷ fs) e t =
          fields_found l k fs (e ∙ ap (λ (x : List ℕ). x ∷ k ∷ fs) (same_true f (mark_word constant) t)) (mark_number n i m.mask k) (number_found n i m.mask k)

  -- the other way
  mark_by : (l : Line) (f : List ℕ) (fs : List (List ℕ)) → fields_of l.bytes ≡ mark_word constant ∷ f ∷ fs
      → mark_on constant n i m l ≡ and_then (mark_number n i m.mask f) (λ k. and_then (mark_value constant i fs) (λ value. demand l.ended wrong_form i (served (with_mark m k value))))
  unfolding mark_fields
  mark_by l f fs e = ap (mark_fields constant n i m l.ended) e

  pub mark_refused : (l : Line) (number : ℕ) → MarkOffence constant n m.mask l number → mark_on constant n i m l ≡ refused number i
  mark_refused l number (laws.no_mark_line f fs e h) = mark_by l f fs e ∙ then_refused _ _ wrong_form i (number_none n i m.mask f h)
  mark_refused l number (laws.beyond f fs e k h a) = mark_by l f fs e ∙ then_refused _ _ bad_mark i (number_high n i m.mask f k h a)
  mark_refused l number (laws.mark_not_rising f fs e k h below j b a) = mark_by l f fs e ∙ then_refused _ _ bad_mark i (number_low n i m.mask f k h j b a)
  mark_refused l number (laws.mark_no_end f fs e k h below above g) =
      mark_by l f fs e
      ∙ then_served _ _ k (number_fits n i m.mask f k h below (lines_below k m.mask above))
      ∙ value_open i constant l.ended fs (with_mark m k) g

  pub offence_starts : (l : Line) (number : ℕ) → MarkOffence constant n m.mask l number → starts_mark constant l ≡ true
  offence_starts l number (laws.no_mark_line f fs e h) = starts_with_word constant f fs l e
  offence_starts l number (laws.beyond f fs e k h a) = starts_with_word constant f fs l e
  offence_starts l number (laws.mark_not_rising f fs e k h below j b a) = starts_with_word constant f fs l e
  offence_starts l number (laws.mark_no_end f fs e k h below above g) = starts_with_word constant f fs l e

  -- the text of a mark
  pub mark_read : (k : ℕ) (value : Bool) → k < n → n ≤ max_lines → m.mask < 2 ^ k → (constant ≡ false → value ≡ false)
      → mark_on constant n i m (record { bytes = mark_bytes constant k value; ended = true }) ≡ served (with_mark m k value)
  mark_read k value below lines_high above g =
      mark_by (record { bytes = mark_bytes constant k value; ended = true }) (number_text k) (value_fields constant value) (mark_parts constant k value (omega arith))
      ∙ then_served _ _ k (number_fits n i m.mask (number_text k) k (record { small = omega arith; text = refl }) below above)
      ∙ then_served _ _ value (value_good i constant value g)
