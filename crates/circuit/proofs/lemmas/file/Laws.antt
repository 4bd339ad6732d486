-- The laws of reading a whole text: the round trip both ways, and what each refusal says. Assumes nothing.
use Rattle.std.proofs.Common.{◌≡◌, ℕ, ◌+◌, ◌*◌, ◌<◌, ◌≤◌, true, false, leb, ◌↔◌, List, [], ◌∷◌, ◌++◌, length, take, drop, sym, refl, ap, ◌∙◌, subst, ap₂, subst₂, append_assoc, arith, length-append, take_at, le-leb, leb-false, leb-true}
use Rattle.std.specs.List.{flat_map}
use mathlib.Core.Bool.{false≢true}
use borrow.Author.Tests.{lt-leb}
use Rattle.bits.specs.Digits.{lines_in}
use Rattle.bits.proofs.Lowest.{lines_none}
use Rattle.bits.proofs.Bools.{either, cond-false}
use Rattle.circuit.specs.declared.gate.Gate.{Gate}
use Rattle.circuit.specs.declared.header.Header.{Header}
use Rattle.circuit.specs.Gate.{max_lines, max_gates}
use Rattle.circuit.specs.Outcome.{Outcome, served, refused, and_then}
use Rattle.circuit.specs.Refusal.{wrong_form, no_room}
use Rattle.circuit.specs.Text.{tab, line_feed, lines_word, number_text, junk_line, count_line, header_lines, end_line, gate_lines, text_of}
use Rattle.circuit.specs.File.{Line, no_line, first_line, later_lines, lines_of, line_size, gate_on, gate_fields, parted_by, count_on, is_end, starts_mark, Marks, no_marks, Group, group_from, header_of, Reading, mark_lines, read_from, reading, counts_of, read_outcome, write_outcome}
use Rattle.circuit.specs.declared.file.ReadCounts.{ReadCounts}
use Rattle.circuit.specs.FileLaws as laws
use Rattle.circuit.specs.FileLaws.{FileCascade, LineOffence, FileRefused, ReaderLaws, Readable, ReadAs, ReadRefused, Writable, WriteRefused}
use Rattle.circuit.specs.Words.{gates_of, all_valid, headed_outcome}
use Rattle.circuit.specs.Header.{unmarked, marks_good}
use Rattle.circuit.proofs.lemmas.header.Marks.{unmarked_good, facts_marks}
use Rattle.circuit.proofs.lemmas.header.Tests.{headed_served, served_headed, headed_wrong}
use Rattle.circuit.proofs.lemmas.Outcome.{never, demand_met, demand_failed, then_served, then_refused, then_both, demanded, wrong_refused, fails_refused, above}
use Rattle.circuit.proofs.lemmas.file.Lines.{cut_first}
use Rattle.circuit.proofs.lemmas.file.Groups.{MarksInside, none_inside, group_text, group_count, GroupFound, whole_group, mark_wrong, group_found}
use Rattle.circuit.proofs.lemmas.file.Headers.{groups_counted, Closed, from_groups, header_wrong, start_read, text_read}
use Rattle.circuit.proofs.lemmas.file.Offences.{HeaderFound, header_found, header_refused, offence_refused, offence_open, Walked, whole_text, stopped, walked}

-- no gate
pub no_gates : (n : ℕ) → all_valid n [] ≡ true
unfolding all_valid
no_gates n = refl

-- what is told of a text: it starts with a cascade's, or a line is wrong
pub data TextFound (text : List ℕ) : Outcome Reading → Type 0 where
  cascade : (h : Header) (gs : List Gate) (rest : List ℕ) → FileCascade h gs → text ≡ text_of h gs ++ rest
      → TextFound text (served (record { header = h; gates = gs; taken = length (text_of h gs) }))
  wrong : (number place : ℕ) → FileRefused text number place → TextFound text (refused number place)

-- the lines of a header by its groups
module _ (n : ℕ) (text x y z : List ℕ) (c j : Marks) (starts : text ≡ count_line n ++ x) (constants : x ≡ group_text true n c ++ y) (junk : y ≡ group_text false n j ++ z) where
  groups_text : text ≡ header_lines (header_of n c j) ++ z
  groups_text =
      starts
      ∙ ap (λ (l : List ℕ). count_line n ++ l) (constants ∙ ap (λ (l : List ℕ). group_text true n c ++ l) junk ∙ sym (append_assoc (group_text true n c) (group_text false n j) z))
      ∙ sym (append_assoc (count_line n) (group_text true n c ++ group_text false n j) z)

groups_good : (n : ℕ) (c j : Marks) → MarksInside true n c → MarksInside false n j → marks_good (header_of n c j) ≡ true
groups_good n c j ci ji = facts_marks (header_of n c j) ci.below ji.below ci.within

-- what stands after both groups starts no mark
closes : (h : Header) (z : List ℕ) → (h.junk ≡ 0 → starts_mark true (first_line (lines_of z)) ≡ false) → starts_mark false (first_line (lines_of z)) ≡ false → Closed h z
closes h z p q = go
  where
    go : Closed h z
    go true o = p (o.no_junk refl)
    go false o = q

-- no junk line is read
no_junk : (n : ℕ) (j : Marks) → j.mask ≡ 0 → group_text false n j ≡ []
no_junk n j e = ap (λ (x : ℕ). flat_map junk_line (lines_in x n)) e ∙ ap (flat_map junk_line) (lines_none n)

module _ (text : List ℕ) where
  -- after both groups: gate lines, and `end` or an offence
  module _ (h : Header) (low : 1 ≤ h.lines) (high : h.lines ≤ max_lines) (good : marks_good h ≡ true) (r : List ℕ) (starts : text ≡ header_lines h ++ r) (closed : Closed h r) where
    gates_found : (o : Outcome Reading) → Walked h (mark_lines h + 1) [] (length (header_lines h)) r o → TextFound text o
    gates_found o (whole_text hs rest q w few) =
        let t : length (text_of h hs) ≡ length (header_lines h) + length (gate_lines hs ++ end_line) = length-append (header_lines h) (gate_lines hs ++ end_line) in
        subst (λ (k : ℕ). TextFound text (served (record { header = h; gates = hs; taken = k }))) t
        (cascade h hs rest (record { lines_low = low; lines_high = high; marks = good; few = omega (arith, few); gates = w })
        (starts
        ∙ ap (λ (x : List ℕ). header_lines h ++ x) (q ∙ sym (append_assoc (gate_lines hs) end_line rest))
        ∙ sym (append_assoc (header_lines h) (gate_lines hs ++ end_line) rest)))
    gates_found o (stopped hs rest q w few number x) =
        let e : 0 + length hs + (mark_lines h + 1) ≡ mark_lines h + length hs + 1 = omega arith in
        let k : 0 + length hs ≡ length hs = omega arith in
        subst (λ (i : ℕ). TextFound text (refused number i)) (sym e)
        (wrong number (mark_lines h + length hs + 1)
        (laws.later_line h hs rest (record { lines_low = low; lines_high = high; marks = good; few = omega (arith, few); gates = w })
        (starts ∙ ap (λ (x : List ℕ). header_lines h ++ x) q)
        (λ constant o. subst (λ (y : List ℕ). starts_mark constant (first_line (lines_of y)) ≡ false) (q ∙ ap (λ (gs : List Gate). gate_lines gs ++ rest) o.no_gates ∙ none_before rest)
        (closed constant (record { no_junk = o.no_junk; no_gates = refl })))
        number
        (subst (λ (i : ℕ). LineOffence h.lines i (length hs) (first_line (lines_of rest)) number) e
        (subst (λ (y : ℕ). LineOffence h.lines (0 + length hs + (mark_lines h + 1)) y (first_line (lines_of rest)) number) k x))))
      where
        none_before : (rest : List ℕ) → gate_lines [] ++ rest ≡ rest
        none_before rest = unfold gate_lines in refl

  -- after the line count
  module _ (n : ℕ) (low : 1 ≤ n) (high : n ≤ max_lines) (x : List ℕ) (starts : text ≡ count_line n ++ x) where
    abbrev at : ℕ
    at = length (count_line n)

    junk_found : (c : Marks) (y : List ℕ) → MarksInside true n c → x ≡ group_text true n c ++ y → starts_mark true (first_line (lines_of y)) ≡ false
        → (o : Outcome Group) → GroupFound false n (1 + group_count n c) (at + length (group_text true n c)) y o
        → TextFound text (and_then o (λ j. read_from (header_of n c j.marks) j.line [] j.at j.left))
    junk_found c y ci q s o (mark_wrong j z ji t number offence) =
        let h : Header = header_of n c j in
        let good : marks_good h ≡ true = groups_good n c j ci ji in
        subst (λ (i : ℕ). TextFound text (refused number i)) (sym (groups_counted h good))
        (wrong number (mark_lines h + 1)
        (laws.on_mark_line h z (record { lines_low = low; lines_high = high; marks = good; few = omega arith; gates = no_gates n })
        (groups_text n text x y z c j starts q t) false (record { no_junk = λ e. absurd (false≢true e); no_gates = refl }) number offence))
    junk_found c y ci q s o (whole_group j z ji t u) =
        let h : Header = header_of n c j in
        let good : marks_good h ≡ true = groups_good n c j ci ji in
        let a : length (header_lines h) ≡ at + length (group_text true n c) + length (group_text false n j) =
        omega (arith, length-append (count_line n) (group_text true n c ++ group_text false n j), length-append (group_text true n c) (group_text false n j)) in
        subst (TextFound text)
        (ap₂ (λ (i k : ℕ). read_from h i [] k (lines_of z)) (sym (groups_counted h good)) a)
        (gates_found h low high good z (groups_text n text x y z c j starts q t) (closes h z (λ e. subst (λ (l : List ℕ). starts_mark true (first_line (lines_of l)) ≡ false) (t ∙ ap (λ (l : List ℕ). l ++ z) (no_junk n j e)) s) u)
        (read_from h (mark_lines h + 1) [] (length (header_lines h)) (lines_of z))
        (walked h (mark_lines h + 1) high (lines_of z) [] (length (header_lines h)) z refl (omega arith)))

    constants_found : (o : Outcome Group) → GroupFound true n 1 at x o
        → TextFound text (and_then o (λ c. and_then (group_from false n c.line c.at no_marks c.left) (λ j. read_from (header_of n c.marks j.marks) j.line [] j.at j.left)))
    constants_found o (mark_wrong c y ci q number offence) =
        let h : Header = header_of n c no_marks in
        let ji : MarksInside false n no_marks = none_inside false n in
        let good : marks_good h ≡ true = groups_good n c no_marks ci ji in
        let none : group_text false n no_marks ≡ [] = no_junk n no_marks refl in
        let i : mark_lines h + 1 ≡ 1 + group_count n c = omega (arith, groups_counted h good, ap length (lines_none n)) in
        subst (λ (i : ℕ). TextFound text (refused number i)) i
        (wrong number (mark_lines h + 1)
        (laws.on_mark_line h y (record { lines_low = low; lines_high = high; marks = good; few = omega arith; gates = no_gates n })
        (groups_text n text x y y c no_marks starts q (ap (λ (l : List ℕ). l ++ y) (sym none))) true (record { no_junk = λ e. refl; no_gates = refl }) number offence))
    constants_found o (whole_group c y ci q s) =
        junk_found c y ci q s (group_from false n (1 + group_count n c) (at + length (group_text true n c)) no_marks (lines_of y))
        (group_found false n (1 + group_count n c) (at + length (group_text true n c)) y)

    groups_found : TextFound text (from_groups n at (lines_of x))
    groups_found = constants_found (group_from true n 1 at no_marks (lines_of x)) (group_found true n 1 at x)

  pub text_found : TextFound text (reading text)
  unfolding reading
  text_found = go (count_on (first_line (lines_of text))) (header_found (first_line (lines_of text)))
    where
      go : (o : Outcome ℕ) → HeaderFound (first_line (lines_of text)) o
          → TextFound text (and_then o (λ n. from_groups n (line_size (first_line (lines_of text))) (later_lines (lines_of text))))
      go o (HeaderFound.bad number x) = wrong number 0 (laws.on_count_line number x)
      go o (HeaderFound.good n low high b d) =
          let l = first_line (lines_of text) in
          let c = cut_first text d in
          let rest : List ℕ = drop (line_size l) text in
          let z : length (number_text n ++ (line_feed ∷ [])) ≡ length (number_text n) + 1 = length-append (number_text n) (line_feed ∷ []) in
          let s : length (count_line n) ≡ line_size l = omega (arith, ap length b) in
          let e : text ≡ count_line n ++ rest =
          c.text
          ∙ ap (λ (x : List ℕ). x ++ (line_feed ∷ rest)) b
          ∙ ap (λ (x : List ℕ). lines_word ++ (tab ∷ x)) (sym (append_assoc (number_text n) (line_feed ∷ []) rest)) in
          subst (TextFound text) (ap₂ (λ (k : ℕ) (ls : List Line). from_groups n k ls) s c.later)
          (groups_found n low high rest e)

  served_found : (c : Reading) (o : Outcome Reading) → TextFound text o → o ≡ served c
      → (rest : List ℕ) × (FileCascade c.header c.gates) × (text ≡ text_of c.header c.gates ++ rest) × (c.taken ≡ length (text_of c.header c.gates))
  served_found c o (cascade h gs rest g e) q =
      let x : record { header = h; gates = gs; taken = length (text_of h gs) } ≡ c = cc in
      subst (λ (c : Reading). (rest : List ℕ) × (FileCascade c.header c.gates) × (text ≡ text_of c.header c.gates ++ rest) × (c.taken ≡ length (text_of c.header c.gates)))
      x (rest, g, e, refl)
  served_found c o (wrong number place x) q = absurd (never q refl)

  refused_found : (number place : ℕ) (o : Outcome Reading) → TextFound text o → o ≡ refused number place → FileRefused text number place
  refused_found number place o (cascade h gs rest g e) q = absurd (never refl q)
  refused_found number place o (wrong m p x) q =
      let a : m ≡ number = cc in
      let b : p ≡ place = cc in
      subst₂ (FileRefused text) a b x

  -- the whole text of what was read
  pub read_cascade : (c : Reading) → reading text ≡ served c
      → (rest : List ℕ) × (FileCascade c.header c.gates) × (text ≡ text_of c.header c.gates ++ rest) × (c.taken ≡ length (text_of c.header c.gates))
  read_cascade c e = served_found c (reading text) text_found e

  pub read_text : (c : Reading) → reading text ≡ served c → (FileCascade c.header c.gates) × (take c.taken text ≡ text_of c.header c.gates)
  read_text c e =
      let (rest, g, t, k) = read_cascade c e in
      (g, ap (take c.taken) t ∙ take_at (text_of c.header c.gates) rest c.taken (sym k))

  pub read_wrong : (number place : ℕ) → reading text ≡ refused number place → FileRefused text number place
  read_wrong number place e = refused_found number place (reading text) text_found e

-- a line that is wrong, or missing, ends the reading
pub line_refused : (h : Header) (first : ℕ) → h.lines ≤ max_lines → (gs : List Gate) (at : ℕ) (ls : List Line) (number : ℕ)
    → LineOffence h.lines (length gs + first) (length gs) (first_line ls) number → read_from h first gs at ls ≡ refused number (length gs + first)
unfolding read_from
line_refused h first high gs at [] number x =
    let i : ℕ = length gs + first in
    let e : ◌≡◌ {A = Outcome Gate} (refused wrong_form i) (refused number i) =
    sym (missing h.lines i (length gs)) ∙ offence_refused h.lines i (length gs) high no_line number x in
    let w : wrong_form ≡ number = cc in
    ap (λ (k : ℕ). refused k i) w
  where
    missing : (n i count : ℕ) → gate_on n i count no_line ≡ refused wrong_form i
    missing n i count = unfold gate_fields parted_by in refl
line_refused h first high gs at (l ∷ ls) number x =
    let i : ℕ = length gs + first in
    cond-false (is_end l) _ _ (offence_open h.lines i (length gs) high l number x)
    ∙ then_refused _ _ number i (offence_refused h.lines i (length gs) high l number x)

pub wrong_read : (text : List ℕ) (number place : ℕ) → FileRefused text number place → reading text ≡ refused number place
wrong_read text number place (laws.on_count_line m x) = unfold reading in then_refused _ _ m 0 (header_refused (first_line (lines_of text)) m x)
wrong_read text number place (laws.on_mark_line h rest c t constant o m x) =
    ap reading t ∙ header_wrong h c.lines_low c.lines_high c.marks rest constant o m x
wrong_read text number place (laws.later_line h gs rest c t closed m x) =
    let e : mark_lines h + length gs + 1 ≡ length gs + (mark_lines h + 1) = omega arith in
    ap reading t
    ∙ start_read h gs rest c closed
    ∙ line_refused h (mark_lines h + 1) c.lines_high gs (length (header_lines h) + length (gate_lines gs)) (lines_of rest) m
    (subst (λ (k : ℕ). LineOffence h.lines k (length gs) (first_line (lines_of rest)) m) e x)
    ∙ ap (refused m) (sym e)

pub reader : ReaderLaws reading
reader = record { text_read = text_read; read_text = read_text; read_refused = λ text number place. (read_wrong text number place, wrong_read text number place) }

-- ---- the call

module _ (text : List ℕ) (room : ℕ) where
  pub read_bad : (number place : ℕ) → reading text ≡ refused number place → read_outcome text room ≡ refused number place
  unfolding read_outcome
  read_bad number place e = then_refused _ _ number place e

  module _ (c : Reading) (was : reading text ≡ served c) where
    pub read_short : room < 3 * length c.gates → read_outcome text room ≡ refused no_room 0
    unfolding read_outcome
    read_short h = then_served _ _ c was ∙ demand_failed _ _ _ _ (lt-leb _ _ h)

    pub read_fits : 3 * length c.gates ≤ room → read_outcome text room ≡ served (counts_of c)
    unfolding read_outcome
    read_fits h = then_served _ _ c was ∙ demand_met _ _ _ _ (le-leb _ _ h)

  pub read_served : (c : ReadCounts) → read_outcome text room ≡ served c → Readable text room c
  read_served c e = go (reading text) refl
    where
      go : (o : Outcome Reading) → reading text ≡ o → Readable text room c
      go (refused number place) q = absurd (never e (read_bad number place q))
      go (served d) q =
          let (rest, g, t, k) = read_cascade text d q in
          either (leb (3 * length d.gates) room)
          (λ h.
          let f : ◌≡◌ {A = Outcome ReadCounts} (served (counts_of d)) (served c) = sym (read_fits d q (leb-true _ _ h)) ∙ e in
          let x : counts_of d ≡ c = cc in
          subst (Readable text room) x
          (record { cascade = d.gates; rest = rest; good = g; starts = t; gates = refl; taken = k; fits = leb-true _ _ h }))
          (λ h. absurd (never e (read_short d q (leb-false _ _ h))))

  pub served_read : (c : ReadCounts) → Readable text room c → read_outcome text room ≡ served c
  served_read c r =
      read_fits (record { header = c.header; gates = r.cascade; taken = length (text_of c.header r.cascade) })
      (ap reading r.starts ∙ text_read c.header r.cascade r.rest r.good) r.fits
      ∙ ap₂ (λ (x y : ℕ). served (record { header = c.header; gates = x; taken = y })) (sym r.gates) (sym r.taken)

-- a text is read as a cascade exactly where it starts with the cascade's text
pub read_as : (text : List ℕ) (c : Reading) → (reading text ≡ served c) ↔ ReadAs text c
read_as text c = (
  (λ e. let (rest, g, t, k) = read_cascade text c e in record { good = g; rest = rest; starts = t; bytes = k }),
  (λ r.
      ap reading r.starts ∙ text_read c.header c.gates r.rest r.good
      ∙ ap (λ (k : ℕ). served (record { header = c.header; gates = c.gates; taken = k })) (sym r.bytes)),
)

pub read_refused : (text : List ℕ) (room number place : ℕ) → (read_outcome text room ≡ refused number place) ↔ ReadRefused text room number place
unfolding read_outcome
read_refused text room =
    wrong_refused (reading text) _ _ _ _ (λ x y. (read_wrong text x y, wrong_read text x y)) (read_as text)
    (λ c g. fails_refused (leb (3 * length c.gates) room) no_room 0 (counts_of c) (room < 3 * length c.gates) (above (3 * length c.gates) room))

-- the text of the cascade without gates on one line
pub refuses_all : (read : List ℕ → Outcome Reading) → ((text : List ℕ) → (number : ℕ) × (place : ℕ) × (read text ≡ refused number place)) → ReaderLaws read → ⊥
unfolding Rattle.circuit.specs.Words.all_valid
refuses_all read all r =
    let (number, place, e) = all (text_of (unmarked 1) [] ++ []) in
    never
    (r.text_read (unmarked 1) [] [] (record { lines_low = omega arith; lines_high = omega arith; marks = unmarked_good 1; few = omega arith; gates = refl })) e

-- ---- writing

module _ (h : Header) (ws : List ℕ) (room : ℕ) where
  pub served_write : (k : ℕ) → Writable h ws room k → write_outcome h ws room ≡ served k
  unfolding write_outcome
  served_write k w =
      then_served _ _ w.gates (served_headed h ws max_gates w.gates w.good)
      ∙ demand_met _ _ _ _ (le-leb (length (text_of h (gates_of ws))) room (omega (arith, w.bytes, w.fits)))
      ∙ ap served (sym w.bytes)

  pub write_served : (k : ℕ) → write_outcome h ws room ≡ served k → Writable h ws room k
  unfolding write_outcome
  write_served k e =
      let (g, a, b) = then_both (headed_outcome h ws max_gates) _ k e in
      let (t, q) = demanded (leb (length (text_of h (gates_of ws))) room) no_room 0 (served (length (text_of h (gates_of ws)))) k b in
      let x : length (text_of h (gates_of ws)) ≡ k = cc in
      record { gates = g; good = headed_served h ws max_gates g a; bytes = sym x; fits = omega (arith, leb-true (length (text_of h (gates_of ws))) room t) }

pub write_refused : (h : Header) (ws : List ℕ) (room number place : ℕ) → (write_outcome h ws room ≡ refused number place) ↔ WriteRefused h ws room number place
unfolding write_outcome
write_refused h ws room =
    headed_wrong h ws max_gates (leb (length (text_of h (gates_of ws))) room) no_room 0 (λ k. length (text_of h (gates_of ws))) (room < length (text_of h (gates_of ws)))
    (above (length (text_of h (gates_of ws))) room)
