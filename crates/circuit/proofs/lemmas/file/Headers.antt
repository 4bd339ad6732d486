-- The laws of a header's lines and of what stands after them: the text of a cascade is read as that cascade. Assumes nothing.
use Rattle.std.proofs.Common.{◌≡◌, ℕ, ◌+◌, ◌-◌, ◌<◌, ◌≤◌, Bool, true, false, List, [], ◌∷◌, ◌++◌, length, refl, ap, ◌∙◌, ap₂, append_assoc, arith, length-append, ⊎_elim, eq-zero-or-pos}
use Rattle.std.specs.List.{flat_map}
use mathlib.Core.Bool.{false≢true}
use lib.Bits.{bit_and}
use lib.Count.{count_trailing_zeros}
use Rattle.bits.specs.Digits.{lines_in}
use Rattle.bits.proofs.Bools.{and_parts, refuted}
use Rattle.bits.proofs.Digits.{lines_ones}
use Rattle.bits.proofs.Lowest.{lines_none, lines_lowest, lowest_below}
use Rattle.bits.proofs.Lists.{free}
use Rattle.circuit.specs.declared.gate.Gate.{Gate}
use Rattle.circuit.specs.declared.header.Header.{Header}
use Rattle.circuit.specs.Gate.{max_lines, valid, controls_of}
use Rattle.circuit.specs.Header.{marks_good}
use Rattle.circuit.specs.Outcome.{Outcome, served, refused, and_then}
use Rattle.circuit.specs.Words.{all_valid}
use Rattle.circuit.specs.Text.{line_feed, end_word, number_text, junk_line, count_line, const_lines, junk_lines, header_lines, gate_line, gate_text, gate_lines, end_line, text_of}
use Rattle.circuit.specs.File.{Line, first_line, later_lines, lines_of, line_size, parted_by, fields_of, same, starts_fields, mark_word, starts_mark, Marks, no_marks, Group, group_from, count_on, header_of, Reading, read_from, reading, mark_lines}
use Rattle.circuit.specs.FileLaws.{FileCascade, GroupOpen, group_mask, MarkOffence}
use Rattle.circuit.proofs.lemmas.Outcome.{then_served, then_refused}
use Rattle.circuit.proofs.lemmas.header.Marks.{marks_facts}
use Rattle.circuit.proofs.lemmas.gate.Valid.{valid_facts}
use Rattle.circuit.proofs.lemmas.file.Lines.{lines_cut, same_true}
use Rattle.circuit.proofs.lemmas.file.Controls.{controls_inside}
use Rattle.circuit.proofs.lemmas.file.Texts.{header_text, count_line_lem, header_read_lem, gate_line_lem, gate_fields_lem, gates_read_lem}
use Rattle.circuit.proofs.lemmas.file.MarkLines.{none_starts, mark_bytes, mark_line_lem, mark_parts, starts_parts, words_apart, mark_refused, offence_starts}
use Rattle.circuit.proofs.lemmas.file.Groups.{MarksInside, group_count, group_read, group_stops, group_wrong}

-- ---- the two groups of a header

abbrev pub constants_of : Header → Marks
constants_of h = record { mask = h.constants; values = h.values }

abbrev pub junk_of : Header → Marks
junk_of h = record { mask = h.junk; values = 0 }

module _ (h : Header) (good : marks_good h ≡ true) where
  pub constants_inside : MarksInside true h.lines (constants_of h)
  constants_inside = let (c, j, v) = marks_facts h good in record { below = c; within = v; junk = λ e. absurd (refuted e refl) }

  pub junk_inside : MarksInside false h.lines (junk_of h)
  junk_inside = let (c, j, v) = marks_facts h good in record { below = j; within = refl; junk = λ e. refl }

  pub groups_counted : 1 + group_count h.lines (constants_of h) + group_count h.lines (junk_of h) ≡ mark_lines h + 1
  groups_counted =
      let (c, j, v) = marks_facts h good in
      omega (arith, lines_ones h.lines h.constants c, lines_ones h.lines h.junk j)

-- ---- lines that start no mark

-- a line with another first word
other_word : (constant : Bool) (f k : List ℕ) (fs : List (List ℕ)) (l : Line) → fields_of l.bytes ≡ f ∷ k ∷ fs → same f (mark_word constant) ≡ false → starts_mark constant l ≡ false
other_word constant f k fs l e s = starts_parts (mark_word constant) f k fs l.bytes e ∙ s

-- no line starts with both words
pub one_word : (l : Line) → starts_mark false l ≡ true → starts_mark true l ≡ false
unfolding starts_fields
one_word l s = go (fields_of l.bytes) s
  where
    go : (fs : List (List ℕ)) → starts_fields (mark_word false) fs ≡ true → starts_fields (mark_word true) fs ≡ false
    go [] t = refl
    go (f ∷ []) t = refl
    go (f ∷ k ∷ fs) t = ap (λ (x : List ℕ). same x (mark_word true)) (same_true f (mark_word false) t) ∙ words_apart

gate_apart : (constant : Bool) → same (103 ∷ []) (mark_word constant) ≡ false
unfolding same
gate_apart true = refl
gate_apart false = refl

pub gate_no_mark : (n : ℕ) → n ≤ max_lines → (g : Gate) (r : List ℕ) → valid n g ≡ true → (constant : Bool) → starts_mark constant (first_line (lines_of (gate_line g ++ r))) ≡ false
gate_no_mark n high g r v constant =
    ap (λ (ls : List Line). starts_mark constant (first_line ls)) (gate_line_lem n high g r v)
    ∙ other_word constant (103 ∷ []) (number_text g.target) _ (record { bytes = gate_text g; ended = true })
    (gate_fields_lem n high g.target (controls_of g) (valid_facts n g v).target_below (controls_inside n g v max_lines)) (gate_apart constant)

pub end_no_mark : (r : List ℕ) (constant : Bool) → starts_mark constant (first_line (lines_of (end_line ++ r))) ≡ false
unfolding free starts_fields parted_by
end_no_mark r constant = ap (λ (ls : List Line). starts_mark constant (first_line ls)) (lines_cut end_word r refl)

-- the first of gate lines and `end`
pub no_mark_after : (n : ℕ) → n ≤ max_lines → (gs : List Gate) → all_valid n gs ≡ true → (r : List ℕ) (constant : Bool) → starts_mark constant (first_line (lines_of (gate_lines gs ++ (end_line ++ r)))) ≡ false
unfolding all_valid gate_lines
no_mark_after n high [] v r constant = end_no_mark r constant
no_mark_after n high (g ∷ gs) v r constant =
    ap (λ (x : List ℕ). starts_mark constant (first_line (lines_of x))) (append_assoc (gate_line g) (gate_lines gs) (end_line ++ r))
    ∙ gate_no_mark n high g (gate_lines gs ++ (end_line ++ r)) (and_parts (valid n g) (all_valid n gs) v).0 constant

-- what stands after a header's lines starts no mark of an open group
abbrev pub Closed : Header → List ℕ → Type 0
Closed h r = (constant : Bool) → GroupOpen constant h [] → starts_mark constant (first_line (lines_of r)) ≡ false

-- gate lines, and what stands after them
pub closed_gates : (h : Header) → h.lines ≤ max_lines → (gs : List Gate) → all_valid h.lines gs ≡ true → (r : List ℕ)
    → ((constant : Bool) → GroupOpen constant h gs → starts_mark constant (first_line (lines_of r)) ≡ false) → Closed h (gate_lines gs ++ r)
unfolding all_valid gate_lines
closed_gates h high [] v r s = s
closed_gates h high (g ∷ gs) v r s =
    λ constant o.
    ap (λ (x : List ℕ). starts_mark constant (first_line (lines_of x))) (append_assoc (gate_line g) (gate_lines gs) r)
    ∙ gate_no_mark h.lines high g (gate_lines gs ++ r) (and_parts (valid h.lines g) (all_valid h.lines gs) v).0 constant

-- ---- a text from the line after the line count

abbrev pub from_groups : ℕ → ℕ → List Line → Outcome Reading
from_groups n at ls =
    and_then (group_from true n 1 at no_marks ls) (λ c.
    and_then (group_from false n c.line c.at no_marks c.left) (λ j. read_from (header_of n c.marks j.marks) j.line [] j.at j.left))

module _ (h : Header) (high : h.lines ≤ max_lines) (good : marks_good h ≡ true) (at : ℕ) (r : List ℕ) where
  no_junk_text : h.junk ≡ 0 → junk_lines h ≡ []
  no_junk_text e = ap (λ (x : ℕ). flat_map junk_line (lines_in x h.lines)) e ∙ ap (flat_map junk_line) (lines_none h.lines)

  -- no constant's line stands after those of the constants
  junk_first : (h.junk ≡ 0 → starts_mark true (first_line (lines_of r)) ≡ false) → starts_mark true (first_line (lines_of (junk_lines h ++ r))) ≡ false
  junk_first s =
      ⊎_elim
      (λ z. ap (λ (x : List ℕ). starts_mark true (first_line (lines_of (x ++ r)))) (no_junk_text z) ∙ s z)
      (λ p.
      let (c, j, v) = marks_facts h good in
      let k : ℕ = count_trailing_zeros h.lines h.junk in
      let ks : List ℕ = lines_in (bit_and h.junk (h.junk - 1)) h.lines in
      let l : k < h.lines = lowest_below h.lines h.lines h.junk (omega arith) p j in
      ap (λ (x : List ℕ). starts_mark true (first_line (lines_of (flat_map junk_line x ++ r)))) (lines_lowest h.lines h.lines h.junk (omega arith) p j)
      ∙ ap (λ (x : List ℕ). starts_mark true (first_line (lines_of x))) (append_assoc (junk_line k) (flat_map junk_line ks) r)
      ∙ ap (λ (ls : List Line). starts_mark true (first_line ls)) (mark_line_lem false k false (flat_map junk_line ks ++ r) (omega arith))
      ∙ other_word true (mark_word false) (number_text k) [] (record { bytes = mark_bytes false k false; ended = true }) (mark_parts false k false (omega arith)) words_apart)
      (eq-zero-or-pos h.junk)

  abbrev first_junk : ℕ
  first_junk = 1 + group_count h.lines (constants_of h)

  abbrev at_junk : ℕ
  at_junk = at + length (const_lines h)

  -- the constants
  constants_read : and_then (group_from true h.lines 1 at no_marks (lines_of ((const_lines h ++ junk_lines h) ++ r))) (λ c.
      and_then (group_from false h.lines c.line c.at no_marks c.left) (λ j. read_from (header_of h.lines c.marks j.marks) j.line [] j.at j.left))
      ≡ and_then (group_from true h.lines first_junk at_junk (constants_of h) (lines_of (junk_lines h ++ r))) (λ c.
      and_then (group_from false h.lines c.line c.at no_marks c.left) (λ j. read_from (header_of h.lines c.marks j.marks) j.line [] j.at j.left))
  constants_read =
      ap (λ (o : Outcome Group). and_then o (λ c. and_then (group_from false h.lines c.line c.at no_marks c.left) (λ j. read_from (header_of h.lines c.marks j.marks) j.line [] j.at j.left)))
      (ap (λ (x : List ℕ). group_from true h.lines 1 at no_marks (lines_of x)) (append_assoc (const_lines h) (junk_lines h) r)
      ∙ group_read true h.lines high (constants_of h) (constants_inside h good) 1 at (junk_lines h ++ r))

  -- and the junk lines
  junk_read : starts_mark true (first_line (lines_of (junk_lines h ++ r))) ≡ false → from_groups h.lines at (lines_of ((const_lines h ++ junk_lines h) ++ r))
      ≡ and_then (group_from false h.lines (first_junk + group_count h.lines (junk_of h)) (at_junk + length (junk_lines h)) (junk_of h) (lines_of r)) (λ j.
      read_from (header_of h.lines (constants_of h) j.marks) j.line [] j.at j.left)
  junk_read s =
      constants_read
      ∙ then_served _ _ _ (group_stops true h.lines first_junk at_junk (constants_of h) (lines_of (junk_lines h ++ r)) s)
      ∙ ap (λ (o : Outcome Group). and_then o (λ j. read_from (header_of h.lines (constants_of h) j.marks) j.line [] j.at j.left))
      (group_read false h.lines high (junk_of h) (junk_inside h good) first_junk at_junk r)

  pub groups_read : Closed h r → from_groups h.lines at (lines_of ((const_lines h ++ junk_lines h) ++ r))
      ≡ read_from h (mark_lines h + 1) [] (at + length (const_lines h ++ junk_lines h)) (lines_of r)
  groups_read closed =
      let a : at_junk + length (junk_lines h) ≡ at + length (const_lines h ++ junk_lines h) = omega (arith, length-append (const_lines h) (junk_lines h)) in
      junk_read (junk_first (λ z. closed true (record { no_junk = λ e. z; no_gates = refl })))
      ∙ then_served _ _ _
      (group_stops false h.lines (first_junk + group_count h.lines (junk_of h)) (at_junk + length (junk_lines h)) (junk_of h) (lines_of r)
      (closed false (record { no_junk = λ e. absurd (false≢true e); no_gates = refl })))
      ∙ ap₂ (λ (i k : ℕ). read_from h i [] k (lines_of r)) (groups_counted h good) a

  -- a mark line of an open group that is wrong
  mark_stops : (constant : Bool) (i k : ℕ) (m : Marks) (number : ℕ) → MarkOffence constant h.lines m.mask (first_line (lines_of r)) number
      → group_from constant h.lines i k m (lines_of r) ≡ refused number i
  mark_stops constant i k m number x = go (lines_of r) x
    where
      go : (ls : List Line) → MarkOffence constant h.lines m.mask (first_line ls) number → group_from constant h.lines i k m ls ≡ refused number i
      go [] x = absurd (refuted (none_starts constant) (offence_starts constant h.lines i m (first_line []) number x))
      go (l ∷ ls) x =
          group_wrong constant h.lines i k m l ls (offence_starts constant h.lines i m l number x) number i (mark_refused constant h.lines i m l number x)

  pub groups_wrong : (constant : Bool) → GroupOpen constant h [] → (number : ℕ) → MarkOffence constant h.lines (group_mask constant h) (first_line (lines_of r)) number
      → from_groups h.lines at (lines_of ((const_lines h ++ junk_lines h) ++ r)) ≡ refused number (mark_lines h + 1)
  groups_wrong true o number x =
      let z : h.junk ≡ 0 = o.no_junk refl in
      let none : group_count h.lines (junk_of h) ≡ 0 = ap (λ (k : ℕ). length (lines_in k h.lines)) z ∙ ap length (lines_none h.lines) in
      constants_read
      ∙ then_refused _ _ number first_junk
      (ap (λ (y : List ℕ). group_from true h.lines first_junk at_junk (constants_of h) (lines_of (y ++ r))) (no_junk_text z)
      ∙ mark_stops true first_junk at_junk (constants_of h) number x)
      ∙ ap (refused number) (omega (arith, groups_counted h good))
  groups_wrong false o number x =
      junk_read (junk_first (λ z. one_word (first_line (lines_of r)) (offence_starts false h.lines 0 (junk_of h) (first_line (lines_of r)) number x)))
      ∙ then_refused _ _ number (first_junk + group_count h.lines (junk_of h)) (mark_stops false _ _ (junk_of h) number x)
      ∙ ap (refused number) (groups_counted h good)

-- ---- a text from its start

module _ (h : Header) (low : 1 ≤ h.lines) (high : h.lines ≤ max_lines) where
  -- its first line
  count_read : (x : List ℕ) → reading (count_line h.lines ++ x) ≡ from_groups h.lines (length (count_line h.lines)) (lines_of x)
  unfolding reading
  count_read x =
      let n : ℕ = h.lines in
      let z : length (number_text n ++ (line_feed ∷ [])) ≡ length (number_text n) + 1 = length-append (number_text n) (line_feed ∷ []) in
      let e : line_size (record { bytes = header_text n; ended = true }) ≡ length (count_line n) = omega arith in
      ap (λ (ls : List Line). and_then (count_on (first_line ls)) (λ n. from_groups n (line_size (first_line ls)) (later_lines ls))) (count_line_lem n x high)
      ∙ then_served _ _ n (header_read_lem n low high)
      ∙ ap (λ (k : ℕ). from_groups n k (lines_of x)) e

  -- all lines of the header
  module _ (good : marks_good h ≡ true) (r : List ℕ) where
    pub header_read : Closed h r → reading (header_lines h ++ r) ≡ read_from h (mark_lines h + 1) [] (length (header_lines h)) (lines_of r)
    header_read closed =
        let a : length (count_line h.lines) + length (const_lines h ++ junk_lines h) ≡ length (header_lines h) = omega (arith, length-append (count_line h.lines) (const_lines h ++ junk_lines h)) in
        ap reading (append_assoc (count_line h.lines) (const_lines h ++ junk_lines h) r)
        ∙ count_read ((const_lines h ++ junk_lines h) ++ r)
        ∙ groups_read h high good (length (count_line h.lines)) r closed
        ∙ ap (λ (k : ℕ). read_from h (mark_lines h + 1) [] k (lines_of r)) a

    pub header_wrong : (constant : Bool) → GroupOpen constant h [] → (number : ℕ) → MarkOffence constant h.lines (group_mask constant h) (first_line (lines_of r)) number
        → reading (header_lines h ++ r) ≡ refused number (mark_lines h + 1)
    header_wrong constant o number x =
        ap reading (append_assoc (count_line h.lines) (const_lines h ++ junk_lines h) r)
        ∙ count_read ((const_lines h ++ junk_lines h) ++ r)
        ∙ groups_wrong h high good (length (count_line h.lines)) r constant o number x

-- a text that starts with a header's lines and gate lines
pub start_read : (h : Header) (gs : List Gate) (r : List ℕ) → FileCascade h gs
    → ((constant : Bool) → GroupOpen constant h gs → starts_mark constant (first_line (lines_of r)) ≡ false)
    → reading (header_lines h ++ (gate_lines gs ++ r)) ≡ read_from h (mark_lines h + 1) gs (length (header_lines h) + length (gate_lines gs)) (lines_of r)
start_read h gs r c closed =
    header_read h c.lines_low c.lines_high c.marks (gate_lines gs ++ r) (closed_gates h c.lines_high gs c.gates r closed)
    ∙ gates_read_lem h c.lines_high (mark_lines h + 1) gs [] (length (header_lines h)) r c.gates (omega (arith, c.few))

-- the text of a cascade, followed by anything
pub text_read : (h : Header) (gs : List Gate) (rest : List ℕ) → FileCascade h gs
    → reading (text_of h gs ++ rest) ≡ served (record { header = h; gates = gs; taken = length (text_of h gs) })
unfolding read_from free same
text_read h gs rest c =
    let a = length-append (header_lines h) (gate_lines gs ++ end_line) in
    let b = length-append (gate_lines gs) end_line in
    let e : length (header_lines h) + length (gate_lines gs) + 4 ≡ length (text_of h gs) = omega arith in
    ap reading (append_assoc (header_lines h) (gate_lines gs ++ end_line) rest ∙ ap (λ (x : List ℕ). header_lines h ++ x) (append_assoc (gate_lines gs) end_line rest))
    ∙ start_read h gs (end_line ++ rest) c (λ constant o. end_no_mark rest constant)
    ∙ ap (read_from h (mark_lines h + 1) gs (length (header_lines h) + length (gate_lines gs))) (lines_cut end_word rest refl)
    ∙ ap (λ (k : ℕ). served (record { header = h; gates = gs; taken = k })) e
