-- The laws of a mark line at a position of a text: its word, its line number, its value, and the marks with it. Assumes nothing.
use Rattle.std.proofs.Common.{◌≡◌, ℕ, ◌+◌, ◌-◌, ◌%◌, ◌^◌, ◌<◌, ◌≤◌, Bool, true, false, cond, ◌&&◌, eqb, ltb, List, [], ◌∷◌, ◌++◌, None, Some, length, take, drop, sym, refl, ap, ◌∙◌, subst, ap₂, append_assoc, arith, length-append, length-drop, drop-drop, le-ltb, lt-ltb, mod-eq_of_lt}
use borrow.Author.Tests.{le-ltb}
use mathlib.Core.Bool.{false≢true}
use lib.Bits.{bit_or}
use Rattle.std.proofs.Common.{true≢false}
use Rattle.std.specs.List.{starts_with}
use Rattle.bits.proofs.Bools.{both, refuted, and_second}
use Rattle.bits.proofs.Lists.{free}
use Rattle.circuit.specs.Gate.{max_lines}
use Rattle.circuit.specs.Outcome.{Outcome, served, refused, demand, and_then}
use Rattle.circuit.specs.Refusal.{wrong_form, bad_mark}
use Rattle.circuit.specs.Text.{tab, line_feed}
use Rattle.circuit.specs.File.{Line, line_size, parted_by, fields_of, number_of, mark_word, starts_mark, Marks, with_mark, mark_number, mark_value, mark_fields, mark_on}
use Rattle.circuit.specs.FileLaws.{value_fields}
use Rattle.circuit.specs.declared.file.scan.Numeral.{Numeral}
use Rattle.circuit.specs.declared.file.marks.MarksNext.{MarksNext}
use Rattle.circuit.specs.private.Scan.{field_at, line_at, width, later_fields, numeral_at}
use Rattle.circuit.specs.private.Marks.{word_size, end_size, mark_line_next, value_at, marks_of, mark_next}
use Rattle.circuit.proofs.lemmas.Outcome.{never, unserved, demand_met, demand_failed, demanded, then_served, then_refused, then_both, then_fails}
use Rattle.circuit.proofs.lemmas.file.Lines.{separated, whole, parts_back}
use Rattle.circuit.proofs.lemmas.file.MarkLines.{value_bytes, value_good, value_open, MarkNumber, fits, high, low, none, number_found, ValueFound, is, is_none, value_found}
use Rattle.circuit.proofs.lemmas.file.scan.Laws.{number_none, number_told, starts_there, starts_true}
use Rattle.circuit.proofs.lemmas.file.scan.Rest.{number_width, parted, Worded, worded, word_there, line_there, there_line}

-- ---- the word

word_field : (constant : Bool) (x : List ℕ) → field_at (mark_word constant ++ (tab ∷ x)) ≡ mark_word constant
unfolding field_at
word_field true x = refl
word_field false x = refl

word_told : (constant : Bool) (text : List ℕ) (at : ℕ)
    → starts_with eqb (take (length text - at) (drop at text)) (mark_word constant ++ (tab ∷ [])) ≡ starts_mark constant (line_at (drop at text))
word_told constant text at = starts_there text at (mark_word constant ++ (tab ∷ [])) ∙ word_there (mark_word constant) (drop at text) (word_field constant)

pub const_starts : (constant : Bool) (text : List ℕ) (at : ℕ) → constant ≡ true
    → starts_with eqb (take (length text - at) (drop at text)) (99 ∷ 111 ∷ 110 ∷ 115 ∷ 116 ∷ 9 ∷ []) ≡ starts_mark constant (line_at (drop at text))
const_starts constant text at e = word_told true text at ∙ ap (λ (b : Bool). starts_mark b (line_at (drop at text))) (sym e)

pub junk_starts : (constant : Bool) (text : List ℕ) (at : ℕ) → constant ≡ false
    → starts_with eqb (take (length text - at) (drop at text)) (106 ∷ 117 ∷ 110 ∷ 107 ∷ 9 ∷ []) ≡ starts_mark constant (line_at (drop at text))
junk_starts constant text at e = word_told false text at ∙ ap (λ (b : Bool). starts_mark b (line_at (drop at text))) (sym e)

pub ruleset start_rules = (const_starts, junk_starts)

-- ---- the line number

module _ (n i mask at : ℕ) (f : List ℕ) where
  pub line_missing : None ≡ numeral_at at (number_of 0 f) → mark_line_next n i mask at f ≡ refused wrong_form i
  unfolding mark_number
  line_missing e = then_refused _ _ wrong_form i (then_refused _ _ wrong_form i (number_none i at f e))

  module _ (m : Numeral) (read : Some m ≡ numeral_at at (number_of 0 f)) where
    pub line_beyond : n ≤ m.value → mark_line_next n i mask at f ≡ refused bad_mark i
    unfolding mark_number
    line_beyond l =
        then_refused _ _ bad_mark i
        (then_served _ _ m.value (number_told i at f m read).0 ∙ demand_failed _ _ _ _ (ap (λ (b : Bool). b && ltb mask (2 ^ m.value)) (le-ltb m.value n l)))

    module _ (below : m.value < n) (high : n ≤ max_lines) (r : ℕ) (is : r ≡ 2 ^ (m.value % max_lines)) where
      power : r ≡ 2 ^ m.value
      power = is ∙ ap (λ (k : ℕ). 2 ^ k) (mod-eq_of_lt (omega arith))

      pub line_low : r ≤ mask → mark_line_next n i mask at f ≡ refused bad_mark i
      unfolding mark_number
      line_low l =
          then_refused _ _ bad_mark i
          (then_served _ _ m.value (number_told i at f m read).0 ∙ demand_failed _ _ _ _ (and_second (ltb m.value n) (le-ltb mask (2 ^ m.value) (omega (arith, power)))))

      pub line_fits : mask < r → mark_line_next n i mask at f ≡ served m
      unfolding mark_number
      line_fits l =
          let t = number_told i at f m read in
          then_served _ _ m.value (then_served _ _ m.value t.0 ∙ demand_met _ _ _ _ (both (lt-ltb m.value n below) (lt-ltb mask (2 ^ m.value) (omega (arith, power)))))
          ∙ ap (λ (k : ℕ). served (record { value = m.value; next = k })) (sym t.1)

pub ruleset line_rules = (line_missing, line_beyond)

-- ---- the value

value_free : (constant value : Bool) → free line_feed (value_bytes constant value) ≡ true
unfolding free
value_free true true = refl
value_free true false = refl
value_free false value = refl

value_parts : (constant value : Bool) → fields_of (value_bytes constant value) ≡ [] ∷ value_fields constant value
unfolding parted_by
value_parts true true = refl
value_parts true false = refl
value_parts false value = refl

parts_value : (constant value : Bool) → whole tab ([] ∷ value_fields constant value) ≡ value_bytes constant value
unfolding separated
parts_value true value = refl
parts_value false value = refl

module _ (constant : Bool) (i : ℕ) (r : List ℕ) where
  value_there : (value : Bool) → (constant ≡ false → value ≡ false) → starts_with eqb r (value_bytes constant value ++ (line_feed ∷ [])) ≡ true → value_at constant i r ≡ served value
  value_there value plain e =
      let l = line_there (value_bytes constant value) r (value_free constant value) e in
      then_served _ _ value
      (ap (λ (x : Line). mark_value constant i (later_fields (fields_of x.bytes))) l
      ∙ ap (λ (fs : List (List ℕ)). mark_value constant i (later_fields fs)) (value_parts constant value)
      ∙ value_good i constant value plain)
      ∙ demand_met _ _ _ _ (ap (λ (x : Line). x.ended) l)

-- the bytes after the line number, by their fields
module _ (constant : Bool) (r : List ℕ) where
  value_line : field_at r ≡ [] → (value : Bool) → later_fields (fields_of (line_at r).bytes) ≡ value_fields constant value → (line_at r).bytes ≡ value_bytes constant value
  value_line stop value e = sym (parts_back tab (line_at r).bytes) ∙ ap (whole tab) (first ∙ ap (λ (fs : List (List ℕ)). [] ∷ fs) e) ∙ parts_value constant value
    where
      first : fields_of (line_at r).bytes ≡ [] ∷ later_fields (fields_of (line_at r).bytes)
      first = subst (λ (f : List ℕ). fields_of (line_at r).bytes ≡ f ∷ later_fields (fields_of (line_at (drop (length f) r)).bytes)) stop (parted r).fields

module _ (constant : Bool) (i : ℕ) (r : List ℕ) where
  value_none : field_at r ≡ [] → ((value : Bool) → (constant ≡ false → value ≡ false) → starts_with eqb r (value_bytes constant value ++ (line_feed ∷ [])) ≡ false) → value_at constant i r ≡ refused wrong_form i
  value_none stop others =
      value_open i constant (line_at r).ended (later_fields (fields_of (line_at r).bytes)) (λ (b : Bool). b) (λ value e d. absurd (go constant value refl e d))
    where
      go : (b value : Bool) → b ≡ constant → later_fields (fields_of (line_at r).bytes) ≡ value_fields constant value → (line_at r).ended ≡ true → ⊥
      go true value q e d = refuted (others value (λ z. absurd (false≢true (sym z ∙ sym q)))) (there_line (value_bytes constant value) r d (value_line constant r stop value e))
      go false value q e d =
          refuted (others false (λ z. refl)) (there_line (value_bytes constant false) r d (value_line constant r stop value e ∙ ap (λ (b : Bool). value_bytes b value) (sym q) ∙ ap (λ (b : Bool). value_bytes b false) q))

-- the same of the text from a position on, as a slice
module _ (constant : Bool) (i : ℕ) (text : List ℕ) (at : ℕ) where
  abbrev slice_starts : List ℕ → Bool
  slice_starts w = starts_with eqb (take (length text - at) (drop at text)) w

  starts_slice : (w : List ℕ) (b : Bool) → slice_starts w ≡ b → starts_with eqb (drop at text) w ≡ b
  starts_slice w b e = sym (starts_there text at w) ∙ e

  module _ (is : constant ≡ true) where
    no_junk : {A : Type 0} → constant ≡ false → A
    no_junk e = absurd (true≢false (sym is ∙ e))

    pub value_zero : slice_starts (9 ∷ 48 ∷ 10 ∷ []) ≡ true → value_at constant i (drop at text) ≡ served false
    value_zero e =
        value_there constant i (drop at text) false no_junk (ap (λ (b : Bool). starts_with eqb (drop at text) (value_bytes b false ++ (line_feed ∷ []))) is ∙ starts_slice (9 ∷ 48 ∷ 10 ∷ []) true e)

    pub value_one : slice_starts (9 ∷ 49 ∷ 10 ∷ []) ≡ true → value_at constant i (drop at text) ≡ served true
    value_one e =
        value_there constant i (drop at text) true no_junk (ap (λ (b : Bool). starts_with eqb (drop at text) (value_bytes b true ++ (line_feed ∷ []))) is ∙ starts_slice (9 ∷ 49 ∷ 10 ∷ []) true e)

    pub value_neither : field_at (drop at text) ≡ [] → slice_starts (9 ∷ 48 ∷ 10 ∷ []) ≡ false → slice_starts (9 ∷ 49 ∷ 10 ∷ []) ≡ false
        → value_at constant i (drop at text) ≡ refused wrong_form i
    value_neither stop zero one = value_none constant i (drop at text) stop go
      where
        go : (value : Bool) → (constant ≡ false → value ≡ false) → starts_with eqb (drop at text) (value_bytes constant value ++ (line_feed ∷ [])) ≡ false
        go true h = ap (λ (b : Bool). starts_with eqb (drop at text) (value_bytes b true ++ (line_feed ∷ []))) is ∙ starts_slice (9 ∷ 49 ∷ 10 ∷ []) false one
        go false h = ap (λ (b : Bool). starts_with eqb (drop at text) (value_bytes b false ++ (line_feed ∷ []))) is ∙ starts_slice (9 ∷ 48 ∷ 10 ∷ []) false zero

  module _ (is : constant ≡ false) where
    pub junk_ended : slice_starts (10 ∷ []) ≡ true → value_at constant i (drop at text) ≡ served false
    junk_ended e =
        value_there constant i (drop at text) false (λ z. refl) (ap (λ (b : Bool). starts_with eqb (drop at text) (value_bytes b false ++ (line_feed ∷ []))) is ∙ starts_slice (10 ∷ []) true e)

    pub junk_open : field_at (drop at text) ≡ [] → slice_starts (10 ∷ []) ≡ false → value_at constant i (drop at text) ≡ refused wrong_form i
    junk_open stop e =
        value_none constant i (drop at text) stop (λ value h.
        ap (λ (b : Bool). starts_with eqb (drop at text) (value_bytes b value ++ (line_feed ∷ []))) is ∙ starts_slice (10 ∷ []) false e)

pub ruleset value_rules = (value_zero, value_one, value_neither, junk_ended, junk_open)

-- ---- the line of a mark

word_long : (constant : Bool) → length (mark_word constant ++ (tab ∷ [])) ≡ word_size constant
word_long true = refl
word_long false = refl

-- what a line number's field tells
mark_number_told : (n i mask : ℕ) (f : List ℕ) (k : ℕ) → mark_number n i mask f ≡ served k → (length f ≡ width k) × (k < n)
mark_number_told n i mask f k e = go (mark_number n i mask f) (number_found n i mask f) e
  where
    go : (o : Outcome ℕ) → MarkNumber n i mask f o → o ≡ served k → (length f ≡ width k) × (k < n)
    go o (fits j h below above) q =
        let x : j ≡ k = cc in
        subst (λ (k : ℕ). (length f ≡ width k) × (k < n)) x (ap length h.text ∙ number_width j, below)
    go o (high j h a) q = absurd (never q refl)
    go o (low j h below l b a) q = absurd (never q refl)
    go o (none h) q = absurd (never q refl)

-- what a value tells
value_told : (constant : Bool) (i : ℕ) (r : List ℕ) (value : Bool) → field_at r ≡ [] → value_at constant i r ≡ served value
    → (mark_value constant i (later_fields (fields_of (line_at r).bytes)) ≡ served value) × ((line_at r).ended ≡ true) × (line_size (line_at r) ≡ end_size constant)
value_told constant i r value stop e =
    let (v, a, b) = then_both (mark_value constant i (later_fields (fields_of (line_at r).bytes))) _ value e in
    let (d, c) = demanded (line_at r).ended wrong_form i (served v) value b in
    (a ∙ c, d, size v (value_found i constant (later_fields (fields_of (line_at r).bytes))) a)
  where
    long : (b v : Bool) → length (value_bytes b v) + 1 ≡ end_size b
    long true v = refl
    long false v = refl

    size : (v : Bool) → ValueFound constant i (later_fields (fields_of (line_at r).bytes)) (mark_value constant i (later_fields (fields_of (line_at r).bytes)))
        → mark_value constant i (later_fields (fields_of (line_at r).bytes)) ≡ served v → line_size (line_at r) ≡ end_size constant
    size v found e = told (mark_value constant i (later_fields (fields_of (line_at r).bytes))) found e
      where
        told : (o : Outcome Bool) → ValueFound constant i (later_fields (fields_of (line_at r).bytes)) o → o ≡ served v → line_size (line_at r) ≡ end_size constant
        told o (is_none h) q = absurd (never q refl)
        told o (is w h q) z = ap (λ (x : List ℕ). length x + 1) (value_line constant r stop w q) ∙ long constant w

-- its word
module _ (constant : Bool) (text : List ℕ) (at : ℕ) (inside : at ≤ length text) (starts : starts_mark constant (line_at (drop at text)) ≡ true) where
  abbrev line_place : ℕ
  line_place = at + word_size constant

  -- after the word
  word_parts : (Worded (drop at text) (mark_word constant) (drop line_place text)) × (line_place ≤ length text)
  word_parts = go constant starts
    where
      go : (b : Bool) → starts_mark b (line_at (drop at text)) ≡ true → (Worded (drop at text) (mark_word b) (drop (at + word_size b) text)) × (at + word_size b ≤ length text)
      go b s =
          let w : List ℕ = mark_word b in
          let e : starts_with eqb (drop at text) (w ++ (tab ∷ [])) ≡ true = word_there w (drop at text) (word_field b) ∙ s in
          let r : List ℕ = drop (length (w ++ (tab ∷ []))) (drop at text) in
          let is : drop at text ≡ w ++ (tab ∷ r) = starts_true (w ++ (tab ∷ [])) (drop at text) e ∙ append_assoc w (tab ∷ []) r in
          let long : length (w ++ (tab ∷ [])) ≡ word_size b = word_long b in
          let same : r ≡ drop (at + word_size b) text = drop-drop (length (w ++ (tab ∷ []))) at text ∙ ap (λ (k : ℕ). drop (at + k) text) long in (
            subst (Worded (drop at text) w) same (subst (λ (x : List ℕ). Worded x w r) (sym is) (worded w r (word_field b r))),
            omega (arith, ap length is, length-append w (tab ∷ r), length-append w (tab ∷ []), length-drop at text),
          )

  -- the line number, and what follows it
  after_word : List ℕ
  after_word = drop line_place text

  number_text_there : List ℕ
  number_text_there = field_at after_word

  module _ (n i : ℕ) (m : Marks) where
    mark_parts : mark_on constant n i m (line_at (drop at text)) ≡ and_then (mark_number n i m.mask number_text_there) (λ k.
        and_then (mark_value constant i (later_fields (fields_of (line_at (drop (length number_text_there) after_word)).bytes))) (λ value.
        demand (line_at (drop (length number_text_there) after_word)).ended wrong_form i (served (with_mark m k value))))
    unfolding mark_fields after_word number_text_there
    mark_parts =
        let w = word_parts.0 in
        let p = parted (drop line_place text) in
        ap₂ (λ (b : Bool) (fs : List (List ℕ)). mark_fields constant n i m b fs) (w.ended ∙ p.ended) (w.fields ∙ ap (λ (fs : List (List ℕ)). mark_word constant ∷ fs) p.fields)

    mark_bad : (number place : ℕ) → mark_line_next n i m.mask line_place (field_at (drop line_place text)) ≡ refused number place → mark_on constant n i m (line_at (drop at text)) ≡ refused number place
    unfolding after_word number_text_there
    mark_bad number place e = mark_parts ∙ then_refused _ _ number place (then_fails _ _ number place e)

    module _ (k : Numeral) (read : mark_line_next n i m.mask line_place (field_at (drop line_place text)) ≡ served k) where
      number_read : (mark_number n i m.mask (field_at (drop line_place text)) ≡ served k.value) × (k.next ≡ line_place + length (field_at (drop line_place text))) × (k.value < n)
      number_read =
          let (j, a, b) = then_both (mark_number n i m.mask (field_at (drop line_place text))) _ k read in
          let x : record { value = j; next = line_place + width j } ≡ k = unserved b in
          let (l, h) = mark_number_told n i m.mask (field_at (drop line_place text)) j a in
          let v : j ≡ k.value = ap (λ (y : Numeral). y.value) x in
          (a ∙ ap served v, omega (arith, ap (λ (y : Numeral). y.next) x), omega arith)

      after_number : drop (length (field_at (drop line_place text))) (drop line_place text) ≡ drop k.next text
      after_number =
          drop-drop (length (field_at (drop line_place text))) line_place text ∙ ap (λ (j : ℕ). drop j text) (sym number_read.1)

      pub value_ready : (k.next ≤ length text) × (field_at (drop k.next text) ≡ [])
      value_ready =
          let p = parted (drop line_place text) in
          (omega (arith, number_read.1, p.inside, length-drop line_place text, word_parts.1), sym (ap field_at after_number) ∙ p.stop)

      mark_valued : mark_on constant n i m (line_at (drop at text)) ≡ and_then (mark_value constant i (later_fields (fields_of (line_at (drop k.next text)).bytes))) (λ value.
          demand (line_at (drop k.next text)).ended wrong_form i (served (with_mark m k.value value)))
      unfolding after_word number_text_there
      mark_valued =
          mark_parts
          ∙ then_served _ _ k.value number_read.0
          ∙ ap (λ (r : List ℕ). and_then (mark_value constant i (later_fields (fields_of (line_at r).bytes))) (λ value. demand (line_at r).ended wrong_form i (served (with_mark m k.value value)))) after_number

      mark_open : (number place : ℕ) → value_at constant i (drop k.next text) ≡ refused number place → mark_on constant n i m (line_at (drop at text)) ≡ refused number place
      mark_open number place e = mark_valued ∙ open_value (mark_value constant i (later_fields (fields_of (line_at (drop k.next text)).bytes))) (line_at (drop k.next text)).ended e
        where
          open_value : (o : Outcome Bool) (ended : Bool) → and_then o (λ value. demand ended wrong_form i (served value)) ≡ refused number place
              → and_then o (λ value. demand ended wrong_form i (served (with_mark m k.value value))) ≡ refused number place
          open_value (refused x y) ended q = let a : x ≡ number = cc in let b : y ≡ place = cc in ap₂ (λ (a b : ℕ). refused a b) a b
          open_value (served v) true q = absurd (never refl q)
          open_value (served v) false q = let a : wrong_form ≡ number = cc in let b : i ≡ place = cc in ap₂ (λ (a b : ℕ). refused a b) a b

      mark_whole_line : (value : Bool) → value_at constant i (drop k.next text) ≡ served value
          → (mark_on constant n i m (line_at (drop at text)) ≡ served (with_mark m k.value value)) × (at + line_size (line_at (drop at text)) ≡ k.next + end_size constant)
      mark_whole_line value e =
          let (a, d, s) = value_told constant i (drop k.next text) value value_ready.1 e in
          let w = word_parts.0 in
          let p = parted (drop line_place text) in
          let z : line_size (line_at (drop line_place text)) ≡ length (field_at (drop line_place text)) + line_size (line_at (drop k.next text)) = p.sizes ∙ ap (λ (r : List ℕ). length (field_at (drop line_place text)) + line_size (line_at r)) after_number in
          (mark_valued ∙ then_served _ _ value a ∙ demand_met _ _ _ _ d, omega (arith, w.sizes, number_read.1, word_long constant, length-append (mark_word constant) (tab ∷ [])))

-- the same of the marks that were read
module _ (constant : Bool) (n : ℕ) (high : n ≤ max_lines) (read : MarksNext) (text : List ℕ) (inside : read.next ≤ length text) (starts : starts_mark constant (line_at (drop read.next text)) ≡ true) where
  abbrev there : ℕ
  there = read.next + word_size constant

  pub mark_ready : there ≤ length text
  mark_ready = (word_parts constant text read.next inside starts).1

  pub mark_refused_line : (number place : ℕ) → mark_line_next n read.place read.mask there (field_at (drop there text)) ≡ refused number place → mark_next constant n read (drop read.next text) ≡ refused number place
  mark_refused_line number place e = then_refused _ _ number place (mark_bad constant text read.next inside starts n read.place (marks_of read) number place e)

  module _ (k : Numeral) (told : mark_line_next n read.place read.mask there (field_at (drop there text)) ≡ served k) where
    pub mark_value_ready : (k.next ≤ length text) × (field_at (drop k.next text) ≡ [])
    mark_value_ready = value_ready constant text read.next inside starts n read.place (marks_of read) k told

    pub mark_below : k.value < max_lines
    mark_below = omega (arith, (number_read constant text read.next inside starts n read.place (marks_of read) k told).2)

    pub mark_refused_value : (number place : ℕ) → value_at constant read.place (drop k.next text) ≡ refused number place → mark_next constant n read (drop read.next text) ≡ refused number place
    mark_refused_value number place e =
        then_refused _ _ number place (mark_open constant text read.next inside starts n read.place (marks_of read) k told number place e)

    pub mark_served : (value : Bool) → value_at constant read.place (drop k.next text) ≡ served value → (line : ℕ) → line ≡ 2 ^ (k.value % max_lines)
        → (set : ℕ) → set ≡ bit_or read.values (cond value (2 ^ k.value) 0) → (size : ℕ) → size ≡ end_size constant
        → mark_next constant n read (drop read.next text) ≡ served (record { mask = bit_or read.mask line; values = set; place = read.place + 1; next = k.next + size })
    mark_served value e line l set v size s =
        let (a, z) = mark_whole_line constant text read.next inside starts n read.place (marks_of read) k told value e in
        let p : line ≡ 2 ^ k.value = l ∙ ap (λ (j : ℕ). 2 ^ j) (mod-eq_of_lt mark_below) in
        let q : read.next + line_size (line_at (drop read.next text)) ≡ k.next + size = omega arith in
        then_served _ _ (with_mark (marks_of read) k.value value) a
        ∙ ap₂ (λ (x y : ℕ). served (record { mask = bit_or read.mask x; values = y; place = read.place + 1; next = read.next + line_size (line_at (drop read.next text)) })) (sym p) (sym v)
        ∙ ap (λ (x : ℕ). served (record { mask = bit_or read.mask line; values = set; place = read.place + 1; next = x })) q
