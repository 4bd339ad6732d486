-- A header as the code reads it: one line of the loop over a group, and the header after the other. Assumes nothing.
use Rattle.std.proofs.Common.{◌≡◌, ℕ, ◌+◌, ◌<◌, ◌≤◌, Bool, true, false, List, [], ◌∷◌, length, drop, sym, refl, ap, ◌∙◌, subst, ap₂, arith, length-append, length-drop, drop-drop}
use Rattle.bits.proofs.Bools.{refuted, either}
use Rattle.circuit.specs.declared.header.Header.{Header}
use Rattle.circuit.specs.declared.file.marks.MarksNext.{MarksNext}
use Rattle.circuit.specs.declared.file.marks.HeaderNext.{HeaderNext}
use Rattle.circuit.specs.declared.file.scan.Numeral.{Numeral}
use Rattle.circuit.specs.Gate.{max_lines}
use Rattle.circuit.specs.Header.{unmarked}
use Rattle.circuit.specs.Outcome.{Outcome, served, refused, and_then}
use Rattle.circuit.specs.Text.{line_feed}
use Rattle.circuit.specs.File.{Line, first_line, later_lines, lines_of, line_size, starts_mark, Marks, no_marks, mark_on, Group, group_from, count_on, header_of, read_from, Reading, reading}
use Rattle.circuit.specs.private.Scan.{line_at, count_next}
use Rattle.circuit.specs.private.Marks.{marks_at, marks_of, mark_next, group_next, header_next}
use Rattle.circuit.proofs.lemmas.Outcome.{never, unserved, then_served, then_refused, then_both, then_fails}
use Rattle.circuit.proofs.lemmas.file.Lines.{cut_first}
use Rattle.circuit.proofs.lemmas.file.Offences.{HeaderFound, header_found}
use Rattle.circuit.proofs.lemmas.file.MarkLines.{none_starts, MarkFound, mark_found}
use Rattle.circuit.proofs.lemmas.file.Groups.{group_step, group_wrong, group_stops}

-- ---- a line that is ended

-- the line after that at a position
pub record Next (text : List ℕ) (at : ℕ) : Type 0 where
  pub inside : at + line_size (line_at (drop at text)) ≤ length text
  pub later : lines_of (drop (at + line_size (line_at (drop at text))) text) ≡ later_lines (lines_of (drop at text))

pub next_line : (text : List ℕ) (at : ℕ) → at ≤ length text → (line_at (drop at text)).ended ≡ true → Next text at
next_line text at h d =
    let l = line_at (drop at text) in
    let c = cut_first (drop at text) d in
    let s : length (drop at text) ≡ length l.bytes + length (line_feed ∷ drop (line_size l) (drop at text)) = ap length c.text ∙ length-append l.bytes _ in
    record {
      inside = omega (arith, length-drop at text);
      later = sym (ap lines_of (drop-drop (line_size l) at text)) ∙ c.later;
    }

-- ---- one mark line

module _ (constant : Bool) (n i at : ℕ) (m : Marks) (text : List ℕ) (inside : at ≤ length text) (starts : starts_mark constant (line_at (drop at text)) ≡ true) where
  -- lines from there on
  all_lines : lines_of (drop at text) ≡ line_at (drop at text) ∷ later_lines (lines_of (drop at text))
  all_lines = go (lines_of (drop at text)) refl starts
    where
      go : (ls : List Line) → lines_of (drop at text) ≡ ls → starts_mark constant (first_line ls) ≡ true → ls ≡ first_line ls ∷ later_lines ls
      go [] e s = absurd (refuted (none_starts constant) s)
      go (l ∷ ls) e s = refl

  mark_ended : (more : Marks) → mark_on constant n i m (line_at (drop at text)) ≡ served more → (line_at (drop at text)).ended ≡ true
  mark_ended more e = go (mark_on constant n i m (line_at (drop at text))) (mark_found constant n i m (line_at (drop at text)) starts) e
    where
      go : (o : Outcome Marks) → MarkFound constant n i m (line_at (drop at text)) o → o ≡ served more → (line_at (drop at text)).ended ≡ true
      go o (MarkFound.good k value below above none b d) q = d
      go o (MarkFound.bad number x) q = absurd (never q refl)

  pub mark_next_line : (more : Marks) → mark_on constant n i m (line_at (drop at text)) ≡ served more → Next text at
  mark_next_line more e = next_line text at inside (mark_ended more e)

  pub mark_goes : (more : Marks) → mark_on constant n i m (line_at (drop at text)) ≡ served more → group_from constant n i at m (lines_of (drop at text))
      ≡ group_from constant n (i + 1) (at + line_size (line_at (drop at text))) more (lines_of (drop (at + line_size (line_at (drop at text))) text))
  mark_goes more e =
      ap (group_from constant n i at m) all_lines
      ∙ group_step constant n i at m (line_at (drop at text)) (later_lines (lines_of (drop at text))) starts more e
      ∙ ap (group_from constant n (i + 1) (at + line_size (line_at (drop at text))) more) (sym (mark_next_line more e).later)

  pub mark_ends : (number place : ℕ) → mark_on constant n i m (line_at (drop at text)) ≡ refused number place → group_from constant n i at m (lines_of (drop at text)) ≡ refused number place
  mark_ends number place e =
      ap (group_from constant n i at m) all_lines
      ∙ group_wrong constant n i at m (line_at (drop at text)) (later_lines (lines_of (drop at text))) starts number place e

-- ---- what the loop over a group keeps: that what is left from the position decides

pub record Grouping (constant : Bool) (n first start : ℕ) (text : List ℕ) (read : MarksNext) : Type 0 where
  pub inside : read.next ≤ length text
  pub early : read.place ≤ read.next
  pub left : group_from constant n first start no_marks (lines_of (drop start text)) ≡ group_from constant n read.place read.next (marks_of read) (lines_of (drop read.next text))

module _ (constant : Bool) (n first start : ℕ) (text : List ℕ) where
  pub grouping_start : start ≤ length text → first ≤ start → Grouping constant n first start text (record { mask = 0; values = 0; place = first; next = start })
  grouping_start h e = record { inside = h; early = e; left = refl }

  module _ (read : MarksNext) (g : Grouping constant n first start text read) where
    pub grouping_end : starts_mark constant (line_at (drop read.next text)) ≡ false → group_next constant n first start text ≡ served read
    grouping_end s = then_served _ _ _ (g.left ∙ group_stops constant n read.place read.next (marks_of read) (lines_of (drop read.next text)) s)

    module _ (s : starts_mark constant (line_at (drop read.next text)) ≡ true) where
      pub grouping_refused : (number place : ℕ) → mark_next constant n read (drop read.next text) ≡ refused number place → group_next constant n first start text ≡ refused number place
      grouping_refused number place e =
          then_refused _ _ number place (g.left ∙ mark_ends constant n read.place read.next (marks_of read) text g.inside s number place (then_fails _ _ number place e))

      module _ (next : MarksNext) (e : mark_next constant n read (drop read.next text) ≡ served next) where
        marked : (more : Marks) × (mark_on constant n read.place (marks_of read) (line_at (drop read.next text)) ≡ served more)
            × (marks_at more (read.place + 1) (read.next + line_size (line_at (drop read.next text))) ≡ next)
        marked = let (more, a, b) = then_both (mark_on constant n read.place (marks_of read) (line_at (drop read.next text))) _ next e in (more, a, unserved b)

        pub grouping_onward : read.next < next.next
        grouping_onward = let (more, a, b) = marked in omega (arith, ap (λ (x : MarksNext). x.next) b)

        pub grouping_on : Grouping constant n first start text next
        grouping_on =
            let (more, a, b) = marked in
            let l = mark_next_line constant n read.place read.next (marks_of read) text g.inside s more a in
            let y = g.early in
            subst (Grouping constant n first start text) b
            (record { inside = l.inside; early = omega arith; left = g.left ∙ mark_goes constant n read.place read.next (marks_of read) text g.inside s more a })

        pub grouping_inside : next.next ≤ length text
        grouping_inside = grouping_on.inside

-- ---- what is known of a group that was read

pub record Grouped (constant : Bool) (n i at : ℕ) (text : List ℕ) (c : MarksNext) : Type 0 where
  pub inside : c.next ≤ length text
  pub early : c.place ≤ c.next
  pub is : group_from constant n i at no_marks (lines_of (drop at text)) ≡ served (record { marks = marks_of c; line = c.place; at = c.next; left = lines_of (drop c.next text) })

module _ (constant : Bool) (n : ℕ) (text : List ℕ) where
  abbrev Ends : Group → Type 0
  Ends g = (g.at ≤ length text) × (g.line ≤ g.at) × (g.left ≡ lines_of (drop g.at text))

  module _ (i at : ℕ) (m : Marks) (inside : at ≤ length text) (early : i ≤ at) (g : Group) (is : group_from constant n i at m (lines_of (drop at text)) ≡ served g) where
    group_stopped : starts_mark constant (line_at (drop at text)) ≡ false → Ends g
    group_stopped s =
        let x : record { marks = m; line = i; at = at; left = lines_of (drop at text) } ≡ g = unserved (sym (group_stops constant n i at m (lines_of (drop at text)) s) ∙ is) in
        subst Ends x (inside, early, refl)

    -- one line of it
    record Turn : Type 0 where
      more : Marks
      next : ℕ
      goes : group_from constant n (i + 1) next more (lines_of (drop next text)) ≡ served g
      within : next ≤ length text
      after : i + 1 ≤ next
      later : lines_of (drop next text) ≡ later_lines (lines_of (drop at text))

    turn : starts_mark constant (line_at (drop at text)) ≡ true → Turn
    turn s = go (mark_on constant n i m (line_at (drop at text))) refl
      where
        go : (o : Outcome Marks) → mark_on constant n i m (line_at (drop at text)) ≡ o → Turn
        go (refused number place) e = absurd (never is (mark_ends constant n i at m text inside s number place e))
        go (served more) e =
            let l = mark_next_line constant n i at m text inside s more e in
            record {
              more = more;
              next = at + line_size (line_at (drop at text));
              goes = sym (mark_goes constant n i at m text inside s more e) ∙ is;
              within = l.inside;
              after = omega arith;
              later = l.later;
            }

  group_ends : (ls : List Line) (i at : ℕ) (m : Marks) → lines_of (drop at text) ≡ ls → at ≤ length text → i ≤ at → (g : Group)
      → group_from constant n i at m (lines_of (drop at text)) ≡ served g → Ends g
  group_ends [] i at m e inside early g is =
      group_stopped i at m inside early g is (ap (λ (x : List Line). starts_mark constant (first_line x)) e ∙ none_starts constant)
  group_ends (l ∷ ls) i at m e inside early g is =
      either (starts_mark constant (line_at (drop at text)))
      (λ s.
      let t = turn i at m inside early g is s in
      group_ends ls (i + 1) t.next t.more (t.later ∙ ap later_lines e) t.within t.after g t.goes)
      (group_stopped i at m inside early g is)

  pub grouped : (i at : ℕ) → at ≤ length text → i ≤ at → (c : MarksNext) → group_next constant n i at text ≡ served c → Grouped constant n i at text c
  grouped i at inside early c e =
      let (g, a, b) = then_both (group_from constant n i at no_marks (lines_of (drop at text))) _ c e in
      let x : marks_at g.marks g.line g.at ≡ c = unserved b in
      let (h, k, l) = group_ends (lines_of (drop at text)) i at no_marks refl inside early g a in
      let whole : g ≡ record { marks = g.marks; line = g.line; at = g.at; left = lines_of (drop g.at text) } =
      ap (λ (ls : List Line). record { marks = g.marks; line = g.line; at = g.at; left = ls }) l in
      subst (Grouped constant n i at text) x (record { inside = h; early = k; is = a ∙ ap served whole })

-- ---- the header

-- the line count
pub record Counted (text : List ℕ) (m : Numeral) : Type 0 where
  pub high : m.value ≤ max_lines
  pub inside : m.next ≤ length text
  pub early : 1 ≤ m.next
  pub is : count_on (line_at text) ≡ served m.value
  pub size : line_size (line_at text) ≡ m.next
  pub later : later_lines (lines_of text) ≡ lines_of (drop m.next text)

pub counted : (text : List ℕ) (m : Numeral) → count_next text ≡ served m → Counted text m
counted text m e =
    let (n, a, b) = then_both (count_on (line_at text)) _ m e in
    let l = line_at text in
    let x : record { value = n; next = line_size l } ≡ m = unserved b in
    let (high, d) = facts n (count_on l) (header_found l) a in
    let c = cut_first text d in
    let s : length text ≡ length l.bytes + length (line_feed ∷ drop (line_size l) text) = ap length c.text ∙ length-append l.bytes _ in
    subst (Counted text) x (record { high = high; inside = omega arith; early = omega arith; is = a; size = refl; later = sym c.later })
  where
    facts : (n : ℕ) (o : Outcome ℕ) → HeaderFound (line_at text) o → o ≡ served n → (n ≤ max_lines) × ((line_at text).ended ≡ true)
    facts n o (HeaderFound.good k low high b d) q = let x : k ≡ n = cc in (omega arith, d)
    facts n o (HeaderFound.bad number y) q = absurd (never q refl)

-- a header without mark lines
pub header_plain : (text : List ℕ) (m : Numeral) → count_next text ≡ served m → starts_mark true (line_at (drop m.next text)) ≡ false → starts_mark false (line_at (drop m.next text)) ≡ false
    → header_next text ≡ served (record { header = unmarked m.value; place = 1; next = m.next })
header_plain text m e s t =
    let c = counted text m e in
    let none : MarksNext = record { mask = 0; values = 0; place = 1; next = m.next } in
    then_served _ _ m e
    ∙ then_served _ _ none (grouping_end true m.value 1 m.next text none (grouping_start true m.value 1 m.next text c.inside c.early) s)
    ∙ then_served _ _ none (grouping_end false m.value 1 m.next text none (grouping_start false m.value 1 m.next text c.inside c.early) t)

-- a reading from the header on
pub record Started (text : List ℕ) (h : Header) (first next : ℕ) : Type 0 where
  pub high : h.lines ≤ max_lines
  pub inside : next ≤ length text
  pub early : first ≤ next
  pub is : reading text ≡ read_from h first [] next (lines_of (drop next text))

module _ (text : List ℕ) where
  abbrev rest_of : ℕ → Outcome Group → Outcome Reading
  rest_of n o = and_then o (λ c. and_then (group_from false n c.line c.at no_marks c.left) (λ j. read_from (header_of n c.marks j.marks) j.line [] j.at j.left))

  -- after the line count
  count_start : (m : Numeral) → count_next text ≡ served m → reading text ≡ rest_of m.value (group_from true m.value 1 m.next no_marks (lines_of (drop m.next text)))
  unfolding reading
  count_start m e =
      let c = counted text m e in
      then_served _ _ m.value c.is
      ∙ ap₂ (λ (k : ℕ) (ls : List Line). rest_of m.value (group_from true m.value 1 k no_marks ls)) c.size c.later

  count_bad : (number p : ℕ) → count_on (line_at text) ≡ refused number p → reading text ≡ refused number p
  unfolding reading
  count_bad number p e = then_refused _ _ number p e

  pub header_start : (r : HeaderNext) → header_next text ≡ served r → Started text r.header r.place r.next
  header_start r e =
      let (m, a, f) = then_both (count_next text) _ r e in
      let (c, b, g) = then_both (group_next true m.value 1 m.next text) _ r f in
      let (j, d, x) = then_both (group_next false m.value c.place c.next text) _ r g in
      let k = counted text m a in
      let l = grouped true m.value text 1 m.next k.inside k.early c b in
      let o = grouped false m.value text c.place c.next l.inside l.early j d in
      subst (λ (r : HeaderNext). Started text r.header r.place r.next) (unserved x)
      (record {
        high = k.high;
        inside = o.inside;
        early = o.early;
        is = count_start m a ∙ then_served _ _ _ l.is ∙ then_served _ _ _ o.is;
      })

  abbrev told_header : Numeral → MarksNext → MarksNext → Outcome HeaderNext
  told_header m c j = served (record { header = header_of m.value (marks_of c) (marks_of j); place = j.place; next = j.next })

  pub header_bad : (number p : ℕ) → header_next text ≡ refused number p → reading text ≡ refused number p
  header_bad number p e = go_count (count_next text) refl e
    where
      groups : (m : Numeral) → Outcome HeaderNext
      groups m = and_then (group_next true m.value 1 m.next text) (λ c. and_then (group_next false m.value c.place c.next text) (λ j. told_header m c j))

      go_junk : (m : Numeral) → count_next text ≡ served m → (c : MarksNext) → group_next true m.value 1 m.next text ≡ served c
          → and_then (group_next false m.value c.place c.next text) (λ j. told_header m c j) ≡ refused number p → reading text ≡ refused number p
      go_junk m a c b q =
          let k = counted text m a in
          let l = grouped true m.value text 1 m.next k.inside k.early c b in
          count_start m a ∙ then_served _ _ _ l.is ∙ then_refused _ _ number p (then_fails _ _ number p (then_fails _ _ number p q))

      go_groups : (m : Numeral) → count_next text ≡ served m → (o : Outcome MarksNext) → group_next true m.value 1 m.next text ≡ o
          → and_then o (λ c. and_then (group_next false m.value c.place c.next text) (λ j. told_header m c j)) ≡ refused number p → reading text ≡ refused number p
      go_groups m a (served c) b q = go_junk m a c b q
      go_groups m a (refused x y) b q = count_start m a ∙ then_refused _ _ number p (then_fails _ _ number p (b ∙ same q))
        where
          same : {A B : Type 0} → ◌≡◌ {A = Outcome A} (refused x y) (refused number p) → ◌≡◌ {A = Outcome B} (refused x y) (refused number p)
          same f = let i : x ≡ number = cc in let j : y ≡ p = cc in ap₂ (λ (a b : ℕ). refused a b) i j

      go_count : (o : Outcome Numeral) → count_next text ≡ o → and_then o groups ≡ refused number p → reading text ≡ refused number p
      go_count (served m) a q = go_groups m a (group_next true m.value 1 m.next text) refl q
      go_count (refused x y) a q =
          let i : x ≡ number = cc in
          let j : y ≡ p = cc in
          count_bad number p (then_fails _ _ number p (a ∙ ap₂ (λ (a b : ℕ). refused a b) i j))
