-- The laws of the line from a position on: its next field, its end, and the gate or the header that it gives. Assumes nothing.
use Rattle.std.proofs.Common.{◌≡◌, ℕ, suc, ◌+◌, ◌-◌, ◌<◌, ◌≤◌, Bool, true, false, not, ◌||◌, eqb, ltb, List, [], ◌∷◌, ◌++◌, None, Some, length, get_or, take, drop, sym, refl, ap, ◌∙◌, subst, ap₂, append_assoc, arith, length-drop, drop-drop, ltb-false, ltb-true, le-ltb, lt-ltb, eq-eqb, ne_eqb, eqb-true}
use Rattle.std.specs.List.{starts_with}
use mathlib.Core.Bool.{false≢true}
use mathlib.Core.List.{cons≢nil}
use lib.Seq.{drop-append_seam, append_snoc}
use Rattle.bits.proofs.Bools.{either, and_parts, both, not_held, refuted, same_test, or_none, not_or}
use Rattle.bits.proofs.Lists.{free}
use Rattle.circuit.specs.declared.gate.Gate.{Gate}
use Rattle.circuit.specs.declared.file.scan.ControlRead.{ControlRead}
use Rattle.circuit.specs.declared.file.scan.Numeral.{Numeral}
use Rattle.circuit.specs.declared.file.scan.Seen.{Seen}
use Rattle.circuit.specs.Gate.{max_lines, max_gates, Control}
use Rattle.circuit.specs.Outcome.{Outcome, served, refused, demand, and_then}
use Rattle.circuit.specs.Refusal.{wrong_form, bad_line_count, line_outside, target_controlled, not_rising, too_many_gates}
use Rattle.circuit.specs.Words.{line_count_good}
use Rattle.circuit.specs.Text.{tab, line_feed, lines_word, gate_word, end_word, number_text}
use Rattle.circuit.specs.File.{Line, no_line, first_line, lines_of, line_size, longer, fields_of, same, number_of, line_of, control_of, controls_from, among, rising_from, gate_of, closed_gate, gate_fields, gate_on, starts_fields, count_fields, count_on, is_end}
use Rattle.circuit.specs.private.Scan.{is_stop, field_at, line_at, width, numeral_at, added, later_fields, count_next, gate_next, line_next, control_next, controls_next}
use Rattle.circuit.proofs.lemmas.Outcome.{never, unserved, demand_met, demand_failed, demanded, then_served, then_refused, then_both, then_fails}
use Rattle.circuit.proofs.lemmas.file.Lines.{line_more, line_over, lines_none, part_over, parts_none, parts_some, same_self, same_true, true_same, lines_cut, cut_first, separated, whole, parts_back}
use Rattle.circuit.proofs.lemmas.file.Lines as lines
use Rattle.circuit.proofs.lemmas.file.Numbers.{text_short, text_long, text_number}
use Rattle.circuit.proofs.lemmas.file.Controls.{next_line, among_push, rising_push, next_push}
use Rattle.circuit.proofs.lemmas.file.Offences.{ControlFound, control_found}
use Rattle.circuit.proofs.lemmas.file.scan.Laws.{default_any, byte_at, field_more, field_stop, field_none, width_short, width_long, number_none, number_told, starts_true, true_starts, starts_there}

-- ---- one byte

-- a byte that is no LF: the line is one byte longer
line_step : (b : ℕ) (r : List ℕ) → eqb b line_feed ≡ false → line_at (b ∷ r) ≡ record { bytes = b ∷ (line_at r).bytes; ended = (line_at r).ended }
line_step b r e = ap first_line (line_more b r e)

line_done : (b : ℕ) (r : List ℕ) → eqb b line_feed ≡ true → line_at (b ∷ r) ≡ record { bytes = []; ended = true }
line_done b r e = ap first_line (line_over b r e)

line_none : line_at [] ≡ no_line
line_none = ap first_line lines_none

stop_parts : (b : ℕ) → is_stop b ≡ false → (eqb b tab ≡ false) × (eqb b line_feed ≡ false)
stop_parts b e = or_none (eqb b tab) (eqb b line_feed) e

-- a tab parts the fields, and stays in the line
pub record Tabbed (r : List ℕ) : Type 0 where
  pub fields : fields_of (line_at r).bytes ≡ [] ∷ fields_of (line_at (drop 1 r)).bytes
  pub ended : (line_at r).ended ≡ (line_at (drop 1 r)).ended
  pub sizes : line_size (line_at r) ≡ 1 + line_size (line_at (drop 1 r))
  pub inside : 0 < length r

pub tabbed_line : (r : List ℕ) → get_or r 0 10 ≡ tab → Tabbed r
tabbed_line [] e = let z : ◌≡◌ {A = ℕ} 10 9 = e in absurd (omega arith)
tabbed_line (b ∷ r) e =
    let t : eqb b line_feed ≡ false = ap (λ (x : ℕ). eqb x line_feed) e in
    let s = line_step b r t in
    let n : length (line_at (b ∷ r)).bytes ≡ suc (length (line_at r).bytes) = ap (λ (l : Line). length l.bytes) s in
    record {
      fields = ap (λ (l : Line). fields_of l.bytes) s ∙ part_over tab b (line_at r).bytes (eq-eqb b tab e);
      ended = ap (λ (l : Line). l.ended) s;
      sizes = omega arith;
      inside = omega arith;
    }

-- ---- the field, and what follows it in its line

pub record Parted (r : List ℕ) (f rest : List ℕ) : Type 0 where
  pub fields : fields_of (line_at r).bytes ≡ f ∷ later_fields (fields_of (line_at rest).bytes)
  pub ended : (line_at r).ended ≡ (line_at rest).ended
  pub sizes : line_size (line_at r) ≡ length f + line_size (line_at rest)
  pub stop : field_at rest ≡ []
  pub inside : length f ≤ length r

-- at a byte that ends a field the first field is empty
stopped : (b : ℕ) (r : List ℕ) → is_stop b ≡ true → fields_of (line_at (b ∷ r)).bytes ≡ [] ∷ later_fields (fields_of (line_at (b ∷ r)).bytes)
stopped b r e =
    either (eqb b tab)
    (λ t.
    let x = (tabbed_line (b ∷ r) (eqb-true b tab t)).fields in
    x ∙ ap (λ (fs : List (List ℕ)). [] ∷ later_fields fs) (sym x))
    (λ t.
    let u : eqb b line_feed ≡ true = sym (ap (λ (x : Bool). x || eqb b line_feed) t) ∙ e in
    let x : fields_of (line_at (b ∷ r)).bytes ≡ [] ∷ [] = ap (λ (l : Line). fields_of l.bytes) (line_done b r u) ∙ parts_none tab in
    x ∙ ap (λ (fs : List (List ℕ)). [] ∷ later_fields fs) (sym x))

empty_part : (r : List ℕ) → field_at r ≡ [] → fields_of (line_at r).bytes ≡ [] ∷ later_fields (fields_of (line_at r).bytes) → Parted r [] r
empty_part r e f = record { fields = f; ended = refl; sizes = omega arith; stop = e; inside = omega arith }

pub parted : (r : List ℕ) → Parted r (field_at r) (drop (length (field_at r)) r)
parted [] =
    rw field_none
    (empty_part [] field_none
    (let x : fields_of (line_at []).bytes ≡ [] ∷ [] = ap (λ (l : Line). fields_of l.bytes) line_none ∙ parts_none tab in
    x ∙ ap (λ (fs : List (List ℕ)). [] ∷ later_fields fs) (sym x)))
parted (b ∷ r) =
    either (is_stop b)
    (λ s. rw (field_stop b r s) (empty_part (b ∷ r) (field_stop b r s) (stopped b r s)))
    (λ s.
    let (t, u) = stop_parts b s in
    let p = parted r in
    let l = line_step b r u in
    let n : length (line_at (b ∷ r)).bytes ≡ suc (length (line_at r).bytes) = ap (λ (x : Line). length x.bytes) l in
    let z = p.sizes in
    let i = p.inside in
    rw (field_more b r s)
    (record {
      fields = ap (λ (x : Line). fields_of x.bytes) l ∙ lines.part_more tab b (line_at r).bytes t ∙ ap (longer b) p.fields;
      ended = ap (λ (x : Line). x.ended) l ∙ p.ended;
      sizes = omega arith;
      stop = p.stop;
      inside = omega arith;
    }))

-- ---- the end of a line

-- where a field ends and no tab stands, an LF does
feed : (b : ℕ) (r : List ℕ) → field_at (b ∷ r) ≡ [] → (b ≡ tab → ⊥) → eqb b line_feed ≡ true
feed b r e h =
    either (is_stop b)
    (λ s. sym (ap (λ (x : Bool). x || eqb b line_feed) (ne_eqb b tab h)) ∙ s)
    (λ s. absurd (cons≢nil (sym (field_more b r s) ∙ e)))

-- a field ends here, and no tab stands here
pub end_fields : (r : List ℕ) → field_at r ≡ [] → (get_or r 0 10 ≡ tab → ⊥) → later_fields (fields_of (line_at r).bytes) ≡ []
end_fields [] e h = ap later_fields (ap (λ (l : Line). fields_of l.bytes) line_none ∙ parts_none tab)
end_fields (b ∷ r) e h = ap later_fields (ap (λ (l : Line). fields_of l.bytes) (line_done b r (feed b r e h)) ∙ parts_none tab)

pub end_missing : (r : List ℕ) → length r ≡ 0 → (line_at r).ended ≡ false
end_missing [] e = ap (λ (l : Line). l.ended) line_none
end_missing (b ∷ r) e = absurd (omega arith)

pub end_there : (r : List ℕ) → field_at r ≡ [] → (get_or r 0 10 ≡ tab → ⊥) → 0 < length r → ((line_at r).ended ≡ true) × (line_size (line_at r) ≡ 1)
end_there [] e h k = absurd (omega arith)
end_there (b ∷ r) e h k =
    let d = line_done b r (feed b r e h) in
    (ap (λ (l : Line). l.ended) d, ap (λ (l : Line). length l.bytes + 1) d)

-- ---- the length of a field that was read

pub number_width : (k : ℕ) → length (number_text k) ≡ width k
number_width k =
    either (ltb k 10)
    (λ t. let h : k < 10 = ltb-true k 10 t in ap length (text_short k h) ∙ sym (width_short k h))
    (λ t. let h : 10 ≤ k = ltb-false k 10 t in ap length (text_long k h) ∙ sym (width_long k h))

pub control_field : (n i : ℕ) (f : List ℕ) (c : Control) → control_of n i f ≡ served c → (length f ≡ 1 + width c.line) × (c.line < n)
control_field n i f c e = go (control_of n i f) (control_found n i f) e
  where
    go : (o : Outcome Control) → ControlFound n i f o → o ≡ served c → (length f ≡ 1 + width c.line) × (c.line < n)
    go o (ControlFound.good d h l) q =
        let x : d ≡ c = cc in
        subst (λ (y : Control). (length f ≡ 1 + width y.line) × (y.line < n)) x (omega (arith, ap length h.text, number_width d.line), l)
    go o (ControlFound.beyond d h l) q = absurd (never q refl)
    go o (ControlFound.wrong h) q = absurd (never q refl)

-- ---- the controls of a gate line

abbrev pub seen_of : ℕ → List Control → Seen
seen_of t cs =
    record { low = next_line 0 cs; rising = rising_from 0 cs; apart = not (among t cs) }

pub seen_none : (t : ℕ) → record { low = 0; rising = true; apart = true } ≡ seen_of t []
unfolding next_line rising_from among
seen_none t = refl

seen_push : (t : ℕ) (cs : List Control) (c : Control) → seen_of t (cs ++ (c ∷ [])) ≡ added t (seen_of t cs) c.line
seen_push t cs c =
    λ i. record {
      low = next_push cs c i;
      rising = rising_push cs c i;
      apart = (ap not (among_push t cs c) ∙ not_or (among t cs) (eqb c.line t)) i;
    }

-- what a gate line's loop keeps: the controls up to `at`, and that what is left of the line from there decides
pub record Going (n i t : ℕ) (text : List ℕ) (first at : ℕ) (seen : Seen) : Type 0 where
  pub passed : List Control
  pub inside : at ≤ length text
  pub stop : field_at (drop at text) ≡ []
  pub is : seen ≡ seen_of t passed
  pub left : controls_from n i [] (later_fields (fields_of (line_at (drop first text)).bytes)) ≡ controls_from n i passed (later_fields (fields_of (line_at (drop at text)).bytes))
  pub ended : (line_at (drop first text)).ended ≡ (line_at (drop at text)).ended
  pub sizes : first + line_size (line_at (drop first text)) ≡ at + line_size (line_at (drop at text))

pub going_start : (n i t : ℕ) (text : List ℕ) (first : ℕ) (seen : Seen) → first ≤ length text → field_at (drop first text) ≡ []
    → seen ≡ record { low = 0; rising = true; apart = true } → Going n i t text first first seen
going_start n i t text first seen h e s =
    record { passed = []; inside = h; stop = e; is = s ∙ seen_none t; left = refl; ended = refl; sizes = refl }

module _ (n i t : ℕ) (text : List ℕ) (first at : ℕ) (seen : Seen) (g : Going n i t text first at seen) where
  module _ (here : get_or (drop at text) 0 10 ≡ tab) where
    -- the field after the tab
    next_field : later_fields (fields_of (line_at (drop at text)).bytes)
        ≡ field_at (drop (at + 1) text) ∷ later_fields (fields_of (line_at (drop (at + 1 + length (field_at (drop (at + 1) text))) text)).bytes)
    next_field =
        let f : List ℕ = field_at (drop (at + 1) text) in
        ap later_fields (tabbed_line (drop at text) here).fields
        ∙ ap (λ (r : List ℕ). fields_of (line_at r).bytes) (drop-drop 1 at text)
        ∙ (parted (drop (at + 1) text)).fields
        ∙ ap (λ (r : List ℕ). f ∷ later_fields (fields_of (line_at r).bytes)) (drop-drop (length f) (at + 1) text)

    pub going_room : at + 1 ≤ length text
    going_room = omega (arith, (tabbed_line (drop at text) here).inside, length-drop at text)

    pub going_refused : (number place : ℕ) → control_next n i (at + 1) (field_at (drop (at + 1) text)) ≡ refused number place
        → controls_next n i t first (drop first text) ≡ refused number place
    unfolding controls_from
    going_refused number place e =
        then_refused _ _ number place
        (then_refused _ _ number place (g.left ∙ ap (controls_from n i g.passed) next_field ∙ then_refused _ _ number place (then_fails _ _ number place e)))

    module _ (c : Control) (read : control_of n i (field_at (drop (at + 1) text)) ≡ served c) where
      field_length : length (field_at (drop (at + 1) text)) ≡ 1 + width c.line
      field_length = (control_field n i (field_at (drop (at + 1) text)) c read).0

      going_control : c.line < n
      going_control = (control_field n i (field_at (drop (at + 1) text)) c read).1

      going_room_after : at + (2 + width c.line) ≤ length text
      going_room_after = omega (arith, field_length, (parted (drop (at + 1) text)).inside, length-drop (at + 1) text, going_room)

      going_more : (last : Seen) → last ≡ added t seen c.line → Going n i t text first (at + (2 + width c.line)) last
      unfolding controls_from
      going_more last e =
          let f : List ℕ = field_at (drop (at + 1) text) in
          let p = parted (drop (at + 1) text) in
          let q : at + 1 + length f ≡ at + (2 + width c.line) = omega (arith, field_length) in
          let d : drop (length f) (drop (at + 1) text) ≡ drop (at + (2 + width c.line)) text =
          drop-drop (length f) (at + 1) text ∙ ap (λ (k : ℕ). drop k text) q in
          let s : line_size (line_at (drop at text)) ≡ 1 + line_size (line_at (drop (at + 1) text)) =
          (tabbed_line (drop at text) here).sizes ∙ ap (λ (r : List ℕ). 1 + line_size (line_at r)) (drop-drop 1 at text) in
          let z : line_size (line_at (drop (at + 1) text)) ≡ length f + line_size (line_at (drop (at + (2 + width c.line)) text)) =
          p.sizes ∙ ap (λ (r : List ℕ). length f + line_size (line_at r)) d in
          let w = g.sizes in
          record {
            passed = g.passed ++ (c ∷ []);
            inside = going_room_after;
            stop = ap field_at (sym d) ∙ p.stop;
            is = e ∙ ap (λ (x : Seen). added t x c.line) g.is ∙ sym (seen_push t g.passed c);
            left =
                g.left
                ∙ ap (controls_from n i g.passed) next_field
                ∙ then_served _ _ c read
                ∙ ap (λ (k : ℕ). controls_from n i (g.passed ++ (c ∷ [])) (later_fields (fields_of (line_at (drop k text)).bytes))) q;
            ended =
                g.ended
                ∙ (tabbed_line (drop at text) here).ended
                ∙ ap (λ (r : List ℕ). (line_at r).ended) (drop-drop 1 at text)
                ∙ p.ended
                ∙ ap (λ (r : List ℕ). (line_at r).ended) d;
            sizes = omega (arith, field_length);
          }

    -- the control that was read there
    module _ (k : ControlRead) (read : control_next n i (at + 1) (field_at (drop (at + 1) text)) ≡ served k) where
      read_parts : (c : Control) × (control_of n i (field_at (drop (at + 1) text)) ≡ served c) × (k.line ≡ c.line) × (k.next ≡ at + (2 + width c.line))
      read_parts =
          let (c, a, b) = then_both (control_of n i (field_at (drop (at + 1) text))) _ k read in
          let x : record { line = c.line; positive = c.positive; next = at + 1 + 1 + width c.line } ≡ k = unserved b in
          let p : at + 1 + 1 + width c.line ≡ k.next = ap (λ (y : ControlRead). y.next) x in
          (c, a, sym (ap (λ (y : ControlRead). y.line) x), omega arith)

      pub going_below : k.line < n
      going_below = let (c, a, l, p) = read_parts in omega (arith, going_control c a)

      pub going_on : (last : Seen) → last ≡ added t seen k.line → Going n i t text first k.next last
      going_on last e =
          let (c, a, l, p) = read_parts in
          subst (λ (j : ℕ). Going n i t text first j last) (sym p) (going_more c a last (e ∙ ap (added t seen) l))

  module _ (none : get_or (drop at text) 0 10 ≡ tab → ⊥) where
    -- all controls were passed
    tested : controls_next n i t first (drop first text)
        ≡ and_then (closed_gate i (line_at (drop at text)).ended t g.passed) (λ x. served (at + line_size (line_at (drop at text))))
    unfolding controls_from
    tested =
        ap (λ (o : Outcome Gate). and_then o (λ x. served (first + line_size (line_at (drop first text)))))
        (then_served _ _ g.passed (g.left ∙ ap (controls_from n i g.passed) (end_fields (drop at text) g.stop none))
        ∙ ap (λ (b : Bool). closed_gate i b t g.passed) g.ended)
        ∙ ap (λ (k : ℕ). and_then (closed_gate i (line_at (drop at text)).ended t g.passed) (λ x. served k)) g.sizes

    pub going_open : length text ≤ at → controls_next n i t first (drop first text) ≡ refused wrong_form i
    unfolding closed_gate
    going_open h =
        tested
        ∙ then_refused _ _ wrong_form i (demand_failed _ _ _ _ (end_missing (drop at text) (omega (arith, length-drop at text))))

    module _ (more : at < length text) where
      there : ((line_at (drop at text)).ended ≡ true) × (line_size (line_at (drop at text)) ≡ 1)
      there = end_there (drop at text) g.stop none (omega (arith, length-drop at text))

      closed : controls_next n i t first (drop first text)
          ≡ and_then (closed_gate i true t g.passed) (λ x. served (at + 1))
      closed =
          tested
          ∙ ap₂ (λ (b : Bool) (k : ℕ). and_then (closed_gate i b t g.passed) (λ x. served (at + k))) there.0 there.1

      pub going_controlled : seen.apart ≡ false → controls_next n i t first (drop first text) ≡ refused target_controlled i
      unfolding closed_gate
      going_controlled e =
          closed ∙ then_refused _ _ target_controlled i (demand_failed _ _ _ _ (sym (ap (λ (s : Seen). s.apart) g.is) ∙ e))

      module _ (apart : seen.apart ≡ true) where
        pub going_falls : seen.rising ≡ false → controls_next n i t first (drop first text) ≡ refused not_rising i
        unfolding closed_gate
        going_falls e =
            closed
            ∙ then_refused _ _ not_rising i
            (demand_met _ _ _ _ (sym (ap (λ (s : Seen). s.apart) g.is) ∙ apart)
            ∙ demand_failed _ _ _ _ (sym (ap (λ (s : Seen). s.rising) g.is) ∙ e))

        pub going_gate : seen.rising ≡ true
            → controls_next n i t first (drop first text) ≡ served (at + 1)
        unfolding closed_gate
        going_gate e =
            closed
            ∙ then_served _ _ (gate_of t g.passed)
            (demand_met _ _ _ _ (sym (ap (λ (s : Seen). s.apart) g.is) ∙ apart)
            ∙ demand_met _ _ _ _ (sym (ap (λ (s : Seen). s.rising) g.is) ∙ e))

-- ---- a line that starts with a word and a tab

pub record Worded (r w rest : List ℕ) : Type 0 where
  pub fields : fields_of (line_at r).bytes ≡ w ∷ fields_of (line_at rest).bytes
  pub ended : (line_at r).ended ≡ (line_at rest).ended
  pub sizes : line_size (line_at r) ≡ length w + 1 + line_size (line_at rest)

pub worded : (w r : List ℕ) → field_at (w ++ (tab ∷ r)) ≡ w → Worded (w ++ (tab ∷ r)) w r
worded w r e =
    let p = parted (w ++ (tab ∷ r)) in
    let d : drop (length (field_at (w ++ (tab ∷ r)))) (w ++ (tab ∷ r)) ≡ tab ∷ r =
    ap (λ (f : List ℕ). drop (length f) (w ++ (tab ∷ r))) e ∙ drop-append_seam w (tab ∷ r) in
    let t = tabbed_line (tab ∷ r) refl in
    let a : line_size (line_at (w ++ (tab ∷ r))) ≡ length w + line_size (line_at (tab ∷ r)) = p.sizes ∙ ap₂ (λ (f x : List ℕ). length f + line_size (line_at x)) e d in
    let b : line_size (line_at (tab ∷ r)) ≡ 1 + line_size (line_at r) = t.sizes in
    record {
      fields = p.fields ∙ ap₂ (λ (f x : List ℕ). f ∷ later_fields (fields_of (line_at x).bytes)) e d ∙ ap (λ (fs : List (List ℕ)). w ∷ later_fields fs) t.fields;
      ended = p.ended ∙ ap (λ (x : List ℕ). (line_at x).ended) d ∙ t.ended;
      sizes = omega arith;
    }

-- a text starts with its first line
line_prefix : (r : List ℕ) → r ≡ (line_at r).bytes ++ drop (length (line_at r).bytes) r
line_prefix [] = sym (ap (λ (l : Line). l.bytes ++ drop (length l.bytes) []) line_none)
line_prefix (b ∷ r) =
    either (eqb b line_feed)
    (λ t. sym (ap (λ (l : Line). l.bytes ++ drop (length l.bytes) (b ∷ r)) (line_done b r t)))
    (λ t. ap (λ (x : List ℕ). b ∷ x) (line_prefix r) ∙ sym (ap (λ (l : Line). l.bytes ++ drop (length l.bytes) (b ∷ r)) (line_step b r t)))

-- a line whose first field is the word, and which has a second one
word_starts : (w : List ℕ) (r t : List ℕ) (fs : List (List ℕ)) → fields_of (line_at r).bytes ≡ w ∷ t ∷ fs → starts_with eqb r (w ++ (tab ∷ [])) ≡ true
unfolding separated
word_starts w r t fs e =
    let x : List ℕ = drop (length (line_at r).bytes) r in
    let p : r ≡ (w ++ (tab ∷ [])) ++ ((t ++ separated tab fs) ++ x) =
    line_prefix r
    ∙ ap (λ (y : List ℕ). y ++ x) (sym (parts_back tab (line_at r).bytes) ∙ ap (whole tab) e ∙ sym (append_snoc w tab (t ++ separated tab fs)))
    ∙ append_assoc (w ++ (tab ∷ [])) (t ++ separated tab fs) x in
    ap (λ (x : List ℕ). starts_with eqb x (w ++ (tab ∷ []))) p ∙ true_starts (w ++ (tab ∷ [])) ((t ++ separated tab fs) ++ x)

-- ---- a gate line from its start

gate_other : (n i count at : ℕ) (r : List ℕ) → starts_with eqb r (103 ∷ 9 ∷ []) ≡ false → gate_next n i count at r ≡ refused wrong_form i
unfolding gate_fields
gate_other n i count at r e = then_refused _ _ wrong_form i (go (fields_of (line_at r).bytes) refl)
  where
    go : (fs : List (List ℕ)) → fields_of (line_at r).bytes ≡ fs → gate_fields n i count (line_at r).ended fs ≡ refused wrong_form i
    go [] q = refl
    go (f ∷ []) q = refl
    go (f ∷ t ∷ fs) q =
        demand_failed {A = Gate} _ _ _ _
        (not_held (same f gate_word) (λ s.
        refuted e (word_starts gate_word r t fs (q ∙ ap (λ (x : List ℕ). x ∷ t ∷ fs) (same_true f gate_word s)))))

-- the word is the first field exactly where the text starts with it and a tab
pub word_there : (w r : List ℕ) → ((x : List ℕ) → field_at (w ++ (tab ∷ x)) ≡ w) → starts_with eqb r (w ++ (tab ∷ [])) ≡ starts_fields w (fields_of (line_at r).bytes)
unfolding starts_fields
word_there w r f = same_test _ _ there back
  where
    told : (x : List ℕ) → Worded r w x → (fs : List (List ℕ)) → fields_of (line_at x).bytes ≡ fs → starts_fields w (fields_of (line_at r).bytes) ≡ true
    told x h [] q = absurd (parts_some tab (line_at x).bytes q)
    told x h (k ∷ fs) q = ap (starts_fields w) (h.fields ∙ ap (λ (y : List (List ℕ)). w ∷ y) q) ∙ same_self w

    there : starts_with eqb r (w ++ (tab ∷ [])) ≡ true → starts_fields w (fields_of (line_at r).bytes) ≡ true
    there e =
        let x : List ℕ = drop (length (w ++ (tab ∷ []))) r in
        let is : r ≡ w ++ (tab ∷ x) = starts_true (w ++ (tab ∷ [])) r e ∙ append_assoc w (tab ∷ []) x in
        told x (subst (λ (y : List ℕ). Worded y w x) (sym is) (worded w x (f x))) (fields_of (line_at x).bytes) refl

    from : (fs : List (List ℕ)) → fields_of (line_at r).bytes ≡ fs → starts_fields w fs ≡ true → starts_with eqb r (w ++ (tab ∷ [])) ≡ true
    from [] q e = absurd (false≢true e)
    from (g ∷ []) q e = absurd (false≢true e)
    from (g ∷ k ∷ fs) q e = word_starts w r k fs (q ∙ ap (λ (x : List ℕ). x ∷ k ∷ fs) (same_true g w e))

    back : starts_fields w (fields_of (line_at r).bytes) ≡ true → starts_with eqb r (w ++ (tab ∷ [])) ≡ true
    back e = from (fields_of (line_at r).bytes) refl e

module _ (r : List ℕ) (starts : starts_with eqb r (103 ∷ 9 ∷ []) ≡ true) where
  pub gate_word_lem : Worded r gate_word (drop 2 r)
  unfolding field_at
  gate_word_lem = subst (λ (x : List ℕ). Worded x gate_word (drop 2 r)) (sym (starts_true (103 ∷ 9 ∷ []) r starts)) (worded gate_word (drop 2 r) refl)

  gate_room : 2 ≤ length r
  gate_room = omega (arith, ap length (starts_true (103 ∷ 9 ∷ []) r starts))

  -- its fields
  gate_parts : fields_of (line_at r).bytes ≡ gate_word ∷ field_at (drop 2 r) ∷ later_fields (fields_of (line_at (drop (length (field_at (drop 2 r))) (drop 2 r))).bytes)
  gate_parts = gate_word_lem.fields ∙ ap (λ (fs : List (List ℕ)). gate_word ∷ fs) (parted (drop 2 r)).fields

  gate_many : (n i count at : ℕ) → max_gates ≤ count → gate_next n i count at r ≡ refused too_many_gates i
  unfolding gate_fields
  gate_many n i count at h =
      then_refused _ _ too_many_gates i
      (ap (gate_fields n i count (line_at r).ended) gate_parts ∙ demand_met {A = Gate} _ _ _ _ (same_self gate_word) ∙ demand_failed {A = Gate} _ _ _ _ (le-ltb count max_gates h))

  module _ (n i count at : ℕ) (few : count < max_gates) where
    gate_few : gate_on n i count (line_at r)
        ≡ and_then (line_of n i (field_at (drop 2 r))) (λ k.
        and_then (controls_from n i [] (later_fields (fields_of (line_at (drop (length (field_at (drop 2 r))) (drop 2 r))).bytes))) (closed_gate i (line_at r).ended k))
    unfolding gate_fields
    gate_few =
        ap (gate_fields n i count (line_at r).ended) gate_parts
        ∙ demand_met {A = Gate} _ _ _ _ (same_self gate_word)
        ∙ demand_met {A = Gate} _ _ _ _ (lt-ltb count max_gates few)

    gate_refused : (number place : ℕ) → line_of n i (field_at (drop 2 r)) ≡ refused number place → gate_next n i count at r ≡ refused number place
    gate_refused number place e = then_refused _ _ number place (gate_few ∙ then_refused _ _ number place e)

    gate_target : (k : ℕ) → line_of n i (field_at (drop 2 r)) ≡ served k → (rest : List ℕ) → rest ≡ drop (length (field_at (drop 2 r))) (drop 2 r) → (next : ℕ)
        → next ≡ at + 2 + length (field_at (drop 2 r)) → gate_next n i count at r ≡ controls_next n i k next rest
    gate_target k e rest q next m =
        let p = parted (drop 2 r) in
        let s : line_size (line_at r) ≡ 2 + line_size (line_at (drop 2 r)) = gate_word_lem.sizes in
        let z : line_size (line_at (drop 2 r)) ≡ length (field_at (drop 2 r)) + line_size (line_at rest) = p.sizes ∙ ap (λ (x : List ℕ). length (field_at (drop 2 r)) + line_size (line_at x)) (sym q) in
        let d : (line_at r).ended ≡ (line_at rest).ended = gate_word_lem.ended ∙ p.ended ∙ ap (λ (x : List ℕ). (line_at x).ended) (sym q) in
        let t : at + line_size (line_at r) ≡ next + line_size (line_at rest) = omega arith in
        ap₂ (λ (o : Outcome Gate) (j : ℕ). and_then o (λ x. served j))
        (gate_few
        ∙ then_served _ _ k e
        ∙ ap₂ (λ (x : List ℕ) (b : Bool). and_then (controls_from n i [] (later_fields (fields_of (line_at x).bytes))) (closed_gate i b k)) (sym q) d) t

-- the length of a target field that was read
line_field_length : (n i : ℕ) (f : List ℕ) (k : ℕ) → line_of n i f ≡ served k → length f ≡ width k
unfolding line_of
line_field_length n i f k e =
    let (m, a, b) = then_both (number_of i f) _ k e in
    let (t, c) = demanded (ltb m n) line_outside i (served m) k b in
    let x : m ≡ k = cc in
    ap length (text_number i f m a).1 ∙ number_width m ∙ ap width x

-- at a position of a text
pub gate_wrong : (n i count : ℕ) (text : List ℕ) (start : ℕ) → starts_with eqb (take (length text - start) (drop start text)) (103 ∷ 9 ∷ []) ≡ false
    → gate_next n i count start (drop start text) ≡ refused wrong_form i
gate_wrong n i count text start e = gate_other n i count start (drop start text) (sym (starts_there text start (103 ∷ 9 ∷ [])) ∙ e)

module _ (text : List ℕ) (start : ℕ) (word : starts_with eqb (take (length text - start) (drop start text)) (103 ∷ 9 ∷ []) ≡ true) where
  starts : starts_with eqb (drop start text) (103 ∷ 9 ∷ []) ≡ true
  starts = sym (starts_there text start (103 ∷ 9 ∷ [])) ∙ word

  pub gate_above : (n i count : ℕ) → max_gates ≤ count → gate_next n i count start (drop start text) ≡ refused too_many_gates i
  gate_above n i count h = gate_many (drop start text) starts n i count start h

  gate_inside : start + 2 ≤ length text
  gate_inside = omega (arith, gate_room (drop start text) starts, length-drop start text)

  module _ (n i count : ℕ) (few : count < max_gates) where
    target_field : line_of n i (field_at (drop 2 (drop start text))) ≡ line_of n i (field_at (drop (start + 2) text))
    target_field = ap (λ (x : List ℕ). line_of n i (field_at x)) (drop-drop 2 start text)

    pub gate_bad : (number place : ℕ) → line_next n i (start + 2) (field_at (drop (start + 2) text)) ≡ refused number place
        → gate_next n i count start (drop start text) ≡ refused number place
    gate_bad number place e =
        gate_refused (drop start text) starts n i count start few number place (target_field ∙ then_fails _ _ number place e)

    module _ (m : Numeral) (read : line_next n i (start + 2) (field_at (drop (start + 2) text)) ≡ served m) where
      target_read : (line_of n i (field_at (drop (start + 2) text)) ≡ served m.value) × (m.next ≡ start + 2 + length (field_at (drop (start + 2) text)))
      target_read =
          let (k, a, b) = then_both (line_of n i (field_at (drop (start + 2) text))) _ m read in
          let x : record { value = k; next = start + 2 + width k } ≡ m = unserved b in
          let v : k ≡ m.value = ap (λ (y : Numeral). y.value) x in
          let p : start + 2 + width k ≡ m.next = ap (λ (y : Numeral). y.next) x in
          (a ∙ ap served v, omega (arith, line_field_length n i (field_at (drop (start + 2) text)) k a))

      after_target : drop m.next text ≡ drop (length (field_at (drop (start + 2) text))) (drop (start + 2) text)
      after_target =
          ap (λ (k : ℕ). drop k text) target_read.1 ∙ sym (drop-drop (length (field_at (drop (start + 2) text))) (start + 2) text)

      pub target_ready : n ≤ max_lines → (m.next ≤ length text) × (n ≤ max_lines) × (field_at (drop m.next text) ≡ [])
      target_ready h = (
        omega (arith, target_read.1, (parted (drop (start + 2) text)).inside, length-drop (start + 2) text, gate_inside),
        h,
        ap field_at after_target ∙ (parted (drop (start + 2) text)).stop,
      )

      pub gate_goes : gate_next n i count start (drop start text) ≡ controls_next n i m.value m.next (drop m.next text)
      gate_goes =
          let d : drop (start + 2) text ≡ drop 2 (drop start text) = sym (drop-drop 2 start text) in
          gate_target (drop start text) starts n i count start few m.value (target_field ∙ target_read.0) (drop m.next text)
          (after_target ∙ ap (λ (r : List ℕ). drop (length (field_at r)) r) d) m.next (target_read.1 ∙ ap (λ (r : List ℕ). start + 2 + length (field_at r)) d)

pub ruleset gate_rules = (gate_wrong, gate_above, gate_bad, gate_goes)

-- ---- `end`

-- a text that starts with a line, and its LF
pub line_there : (w r : List ℕ) → free line_feed w ≡ true → starts_with eqb r (w ++ (line_feed ∷ [])) ≡ true → line_at r ≡ record { bytes = w; ended = true }
line_there w r f e =
    ap first_line
    (ap lines_of (starts_true (w ++ (line_feed ∷ [])) r e ∙ append_assoc w (line_feed ∷ []) (drop (length (w ++ (line_feed ∷ []))) r))
    ∙ lines_cut w (drop (length (w ++ (line_feed ∷ []))) r) f)

pub there_line : (w r : List ℕ) → (line_at r).ended ≡ true → (line_at r).bytes ≡ w → starts_with eqb r (w ++ (line_feed ∷ [])) ≡ true
there_line w r d b =
    ap (λ (x : List ℕ). starts_with eqb x (w ++ (line_feed ∷ [])))
    ((cut_first r d).text
    ∙ ap (λ (x : List ℕ). x ++ (line_feed ∷ drop (line_size (line_at r)) r)) b
    ∙ sym (append_assoc w (line_feed ∷ []) (drop (line_size (line_at r)) r)))
    ∙ true_starts (w ++ (line_feed ∷ [])) (drop (line_size (line_at r)) r)

end_line_lem : (r : List ℕ) → starts_with eqb r (101 ∷ 110 ∷ 100 ∷ 10 ∷ []) ≡ is_end (line_at r)
unfolding free
end_line_lem r =
    same_test _ _
    (λ e. let l = line_there end_word r refl e in both (ap (λ (x : Line). x.ended) l) (true_same (line_at r).bytes end_word (ap (λ (x : Line). x.bytes) l)))
    (λ e.
    let (d, b) = and_parts (line_at r).ended (same (line_at r).bytes end_word) e in
    there_line end_word r d (same_true (line_at r).bytes end_word b))

pub ends_there : (text : List ℕ) (at : ℕ) → starts_with eqb (take (length text - at) (drop at text)) (101 ∷ 110 ∷ 100 ∷ 10 ∷ []) ≡ is_end (line_at (drop at text))
ends_there text at = starts_there text at (101 ∷ 110 ∷ 100 ∷ 10 ∷ []) ∙ end_line_lem (drop at text)

-- ---- the line count

pub count_other : (r : List ℕ) → starts_with eqb r (108 ∷ 105 ∷ 110 ∷ 101 ∷ 115 ∷ 9 ∷ []) ≡ false → count_next r ≡ refused wrong_form 0
unfolding count_fields
count_other r e = then_refused _ _ wrong_form 0 (go (fields_of (line_at r).bytes) refl)
  where
    no : (f k : List ℕ) (fs : List (List ℕ)) → fields_of (line_at r).bytes ≡ f ∷ k ∷ fs → same f lines_word ≡ false
    no f k fs q =
        not_held (same f lines_word) (λ s.
        refuted e (word_starts lines_word r k fs (q ∙ ap (λ (x : List ℕ). x ∷ k ∷ fs) (same_true f lines_word s))))

    go : (fs : List (List ℕ)) → fields_of (line_at r).bytes ≡ fs → count_fields (line_at r).ended fs ≡ refused wrong_form 0
    go [] q = refl
    go (f ∷ []) q = refl
    go (f ∷ k ∷ []) q = demand_failed {A = ℕ} _ _ _ _ (no f k [] q)
    go (f ∷ k ∷ x ∷ fs) q = demand_failed {A = ℕ} _ _ _ _ (no f k (x ∷ fs) q)

-- after the number: a missing LF or a further field
abbrev last_test : Bool → List (List ℕ) → ℕ → Outcome ℕ
last_test ended [] n = demand ended wrong_form 0 (served n)
last_test ended (x ∷ fs) n = refused wrong_form 0

header_started : (ended : Bool) (k : List ℕ) (fs : List (List ℕ))
    → count_fields ended (lines_word ∷ k ∷ fs) ≡ and_then (number_of 0 k) (λ n. demand (line_count_good n) bad_line_count 0 (last_test ended fs n))
unfolding count_fields
header_started ended k [] = demand_met {A = ℕ} _ _ _ _ (same_self lines_word)
header_started ended k (x ∷ fs) = demand_met {A = ℕ} _ _ _ _ (same_self lines_word)

module _ (r : List ℕ) (starts : starts_with eqb r (108 ∷ 105 ∷ 110 ∷ 101 ∷ 115 ∷ 9 ∷ []) ≡ true) where
  header_word : Worded r lines_word (drop 6 r)
  unfolding field_at
  header_word =
      subst (λ (x : List ℕ). Worded x lines_word (drop 6 r)) (sym (starts_true (108 ∷ 105 ∷ 110 ∷ 101 ∷ 115 ∷ 9 ∷ []) r starts))
      (worded lines_word (drop 6 r) refl)

  -- what follows the number
  after : List ℕ
  after = drop (length (field_at (drop 6 r))) (drop 6 r)

  header_parts : count_on (line_at r)
      ≡ and_then (number_of 0 (field_at (drop 6 r))) (λ n. demand (line_count_good n) bad_line_count 0 (last_test (line_at r).ended (later_fields (fields_of (line_at after).bytes)) n))
  unfolding after
  header_parts =
      ap (count_fields (line_at r).ended) (header_word.fields ∙ ap (λ (fs : List (List ℕ)). lines_word ∷ fs) (parted (drop 6 r)).fields)
      ∙ header_started (line_at r).ended (field_at (drop 6 r)) (later_fields (fields_of (line_at after).bytes))

  pub count_wrong : None ≡ numeral_at 6 (number_of 0 (field_at (drop 6 r))) → count_next r ≡ refused wrong_form 0
  count_wrong e = then_refused _ _ wrong_form 0 (header_parts ∙ then_refused _ _ wrong_form 0 (number_none 0 6 (field_at (drop 6 r)) e))

  module _ (m : Numeral) (read : Some m ≡ numeral_at 6 (number_of 0 (field_at (drop 6 r)))) where
    told : number_of 0 (field_at (drop 6 r)) ≡ served m.value
    told = (number_told 0 6 (field_at (drop 6 r)) m read).0

    after_number : m.next ≡ 6 + width m.value
    after_number = (number_told 0 6 (field_at (drop 6 r)) m read).1

    number_length : length (field_at (drop 6 r)) ≡ width m.value
    number_length = ap length (text_number 0 (field_at (drop 6 r)) m.value told).1 ∙ number_width m.value

    pub count_outside : line_count_good m.value ≡ false → count_next r ≡ refused bad_line_count 0
    count_outside e = then_refused _ _ bad_line_count 0 (header_parts ∙ then_served _ _ m.value told ∙ demand_failed {A = ℕ} _ _ _ _ e)

    module _ (inside : line_count_good m.value ≡ true) where
      header_last : count_on (line_at r) ≡ last_test (line_at r).ended (later_fields (fields_of (line_at after).bytes)) m.value
      header_last = header_parts ∙ then_served _ _ m.value told ∙ demand_met {A = ℕ} _ _ _ _ inside

      after_is : after ≡ drop (6 + width m.value) r
      unfolding after
      after_is = drop-drop (length (field_at (drop 6 r))) 6 r ∙ ap (λ (k : ℕ). drop (6 + k) r) number_length

      after_ended : (line_at r).ended ≡ (line_at after).ended
      unfolding after
      after_ended = header_word.ended ∙ (parted (drop 6 r)).ended

      after_stop : field_at after ≡ []
      unfolding after
      after_stop = (parted (drop 6 r)).stop

      after_size : line_size (line_at r) ≡ 6 + width m.value + line_size (line_at after)
      unfolding after
      after_size = omega (arith, header_word.sizes, (parted (drop 6 r)).sizes, number_length)

      after_length : length after ≡ length r - (6 + width m.value)
      after_length = ap length after_is ∙ length-drop (6 + width m.value) r

      first_after : m.next < length r → get_or r m.next 0 ≡ get_or after 0 10
      first_after h =
          default_any r m.next 0 10 h ∙ byte_at r m.next ∙ ap (λ (x : List ℕ). get_or x 0 10) (ap (λ (k : ℕ). drop k r) after_number ∙ sym after_is)

      pub count_missing : length r ≤ m.next → count_next r ≡ refused wrong_form 0
      count_missing h =
          let z : length after ≡ 0 = omega (arith, after_length, after_number) in
          then_refused _ _ wrong_form 0
          (header_last
          ∙ ap₂ (λ (b : Bool) (fs : List (List ℕ)). last_test b fs m.value) (after_ended ∙ end_missing after z) (end_fields after after_stop (no_tab after z)))
        where
          no_tab : (x : List ℕ) → length x ≡ 0 → get_or x 0 10 ≡ tab → ⊥
          no_tab [] z e = let y : ◌≡◌ {A = ℕ} 10 9 = e in omega arith
          no_tab (b ∷ x) z e = omega arith

      pub count_further : m.next < length r → (get_or r m.next 0 ≡ 10 → ⊥) → count_next r ≡ refused wrong_form 0
      count_further h ne = then_refused _ _ wrong_form 0 (header_last ∙ go (later_fields (fields_of (line_at after).bytes)) refl)
        where
          tabs : (x : List ℕ) → field_at x ≡ [] → (get_or x 0 10 ≡ 10 → ⊥) → get_or x 0 10 ≡ tab
          tabs [] e q = absurd (q refl)
          tabs (b ∷ x) e q =
              either (eqb b tab) (λ t. eqb-true b tab t)
              (λ t.
              either (is_stop b)
              (λ s. absurd (q (eqb-true b line_feed (sym (ap (λ (y : Bool). y || eqb b line_feed) t) ∙ s))))
              (λ s. absurd (cons≢nil (sym (field_more b x s) ∙ e))))

          go : (fs : List (List ℕ)) → later_fields (fields_of (line_at after).bytes) ≡ fs → last_test (line_at r).ended fs m.value ≡ refused wrong_form 0
          go (x ∷ fs) q = refl
          go [] q =
              absurd (parts_some tab (line_at (drop 1 after)).bytes
              (sym (ap later_fields (tabbed_line after (tabs after after_stop (λ e. ne (first_after h ∙ e)))).fields) ∙ q))

      pub count_good : m.next < length r → get_or r m.next 0 ≡ 10 → count_next r ≡ served (record { value = m.value; next = m.next + 1 })
      count_good h e =
          let nt : get_or after 0 10 ≡ tab → ⊥ = λ q. ten (sym e ∙ first_after h ∙ q) in
          let (d, s) = end_there after after_stop nt (omega (arith, after_length, after_number)) in
          let z : line_size (line_at r) ≡ m.next + 1 = omega (arith, after_size, after_number) in
          then_served _ _ m.value
          (header_last
          ∙ ap₂ (λ (b : Bool) (fs : List (List ℕ)). last_test b fs m.value) (after_ended ∙ d) (end_fields after after_stop nt))
          ∙ ap (λ (k : ℕ). served (record { value = m.value; next = k })) z
        where
          ten : ◌≡◌ {A = ℕ} 10 tab → ⊥
          ten q = omega arith

pub ruleset count_rules = (count_other, count_wrong, count_outside, count_missing, count_further, count_good)
