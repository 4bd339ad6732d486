-- A reading as the code takes it: one line of the loop that judges, the header, and what the call owes. Assumes nothing.
use Rattle.std.proofs.Common.{◌≡◌, ℕ, ◌+◌, ◌<◌, ◌≤◌, true, false, List, [], ◌∷◌, ◌++◌, length, drop, sym, refl, ap, ◌∙◌, subst, ap₂, arith, length-append, length-drop, drop-drop}
use mathlib.Core.Bool.{false≢true}
use Rattle.bits.proofs.Bools.{and_parts, cond-true, cond-false}
use Rattle.circuit.specs.declared.gate.Gate.{Gate}
use Rattle.circuit.specs.declared.header.Header.{Header}
use Rattle.circuit.specs.Gate.{max_lines, max_gates}
use Rattle.circuit.specs.Outcome.{Outcome, served, refused, written, Yields}
use Rattle.circuit.specs.Refusal.{wrong_form}
use Rattle.circuit.specs.Text.{line_feed, end_word, end_line}
use Rattle.circuit.specs.File.{Line, no_line, first_line, later_lines, lines_of, line_size, parted_by, same, gate_fields, gate_on, is_end, Reading, read_from, reading, counts_of, gates_read, read_outcome, read_buffer}
use Rattle.circuit.specs.declared.file.ReadCounts.{ReadCounts}
use Rattle.circuit.specs.Words.{words_of}
use Rattle.circuit.specs.private.Scan.{line_at, gate_next, counts_from}
use Rattle.circuit.specs.private.Fill.{GatesAt}
use Rattle.circuit.proofs.lemmas.file.marks.Steps.{Started}
use Rattle.circuit.proofs.lemmas.Outcome.{never, unserved, then_served, then_refused, then_both, told}
use Rattle.circuit.proofs.lemmas.words.Gates.{valid_all_more}
use Rattle.circuit.proofs.lemmas.file.Lines.{cut_first, same_true}
use Rattle.circuit.proofs.lemmas.file.Offences.{GateFound, gate_found, Walked, whole_text, stopped, walked}

-- a gate line that was read
pub record Stepped (h : Header) (first : ℕ) (text : List ℕ) (gs : List Gate) (at next : ℕ) : Type 0 where
  pub gate : Gate
  pub onward : at < next
  pub inside : next ≤ length text
  pub few : length gs < max_gates
  pub left : read_from h first gs at (lines_of (drop at text)) ≡ read_from h first (gs ++ (gate ∷ [])) next (lines_of (drop next text))

module _ (h : Header) (first : ℕ) (lines_high : h.lines ≤ max_lines) (text : List ℕ) (gs : List Gate) (at : ℕ) (inside : at ≤ length text) where
  gate_facts : (g : Gate) → gate_on h.lines (length gs + first) (length gs) (line_at (drop at text)) ≡ served g → is_end (line_at (drop at text)) ≡ false
      → ((line_at (drop at text)).ended ≡ true) × (length gs < max_gates)
  gate_facts g e z = go (gate_on h.lines (length gs + first) (length gs) (line_at (drop at text))) (gate_found h.lines (length gs + first) (length gs) lines_high (line_at (drop at text)) z) e
    where
      go : (o : Outcome Gate) → GateFound h.lines (length gs + first) (length gs) (line_at (drop at text)) o → o ≡ served g → ((line_at (drop at text)).ended ≡ true) × (length gs < max_gates)
      go o (GateFound.good x v b d m) q = (d, m)
      go o (GateFound.bad number x) q = absurd (never q refl)

  from_line : (g : Gate) → gate_on h.lines (length gs + first) (length gs) (line_at (drop at text)) ≡ served g → is_end (line_at (drop at text)) ≡ false → (line_at (drop at text)).ended ≡ true
      → (ls : List Line) → lines_of (drop at text) ≡ ls → read_from h first gs at ls ≡ read_from h first (gs ++ (g ∷ [])) (at + line_size (first_line ls)) (later_lines ls)
  unfolding read_from
  from_line g e z d [] q = absurd (false≢true (sym (ap (λ (ls : List Line). (first_line ls).ended) q) ∙ d))
  from_line g e z d (l ∷ ls) q =
      cond-false (is_end l) _ _ (sym (ap (λ (x : List Line). is_end (first_line x)) q) ∙ z)
      ∙ then_served _ _ g (sym (ap (λ (x : List Line). gate_on h.lines (length gs + first) (length gs) (first_line x)) q) ∙ e)

  pub stepped : is_end (line_at (drop at text)) ≡ false → (next : ℕ) → gate_next h.lines (length gs + first) (length gs) at (drop at text) ≡ served next → Stepped h first text gs at next
  stepped z next e =
      let (g, good, b) = then_both (gate_on h.lines (length gs + first) (length gs) (line_at (drop at text))) _ next e in
      let l = line_at (drop at text) in
      let q : at + line_size l ≡ next = unserved b in
      let (d, m) = gate_facts g good z in
      let c = cut_first (drop at text) d in
      let s : length (drop at text) ≡ length l.bytes + length (line_feed ∷ drop (line_size l) (drop at text)) = ap length c.text ∙ length-append l.bytes _ in
      let t = length-drop at text in
      record {
        gate = g;
        onward = omega arith;
        inside = omega arith;
        few = m;
        left =
            from_line g good z d (lines_of (drop at text)) refl
            ∙ ap₂ (λ (k : ℕ) (ls : List Line). read_from h first (gs ++ (g ∷ [])) k ls) q
            (sym c.later ∙ ap lines_of (drop-drop (line_size l) at text ∙ ap (λ (k : ℕ). drop k text) q));
      }

  pub step_refused : is_end (line_at (drop at text)) ≡ false → (number place : ℕ) → gate_next h.lines (length gs + first) (length gs) at (drop at text) ≡ refused number place
      → read_from h first gs at (lines_of (drop at text)) ≡ refused number place
  unfolding read_from
  step_refused z number place e = go (lines_of (drop at text)) refl (bad (gate_on h.lines (length gs + first) (length gs) (line_at (drop at text))) refl)
    where
      bad : (o : Outcome Gate) → gate_on h.lines (length gs + first) (length gs) (line_at (drop at text)) ≡ o → gate_on h.lines (length gs + first) (length gs) (line_at (drop at text)) ≡ refused number place
      bad (served g) q = absurd (never (then_served _ _ g q) e)
      bad (refused x y) q =
          let f : ◌≡◌ {A = Outcome ℕ} (refused x y) (refused number place) = sym (then_refused _ _ x y q) ∙ e in
          let i : x ≡ number = cc in
          let j : y ≡ place = cc in
          q ∙ ap₂ (λ (a b : ℕ). refused a b) i j

      missing : gate_on h.lines (length gs + first) (length gs) no_line ≡ refused wrong_form (length gs + first)
      missing = unfold gate_fields parted_by in refl

      go : (ls : List Line) → lines_of (drop at text) ≡ ls → gate_on h.lines (length gs + first) (length gs) (line_at (drop at text)) ≡ refused number place → read_from h first gs at ls ≡ refused number place
      go [] q b =
          let f : ◌≡◌ {A = Outcome Gate} (refused wrong_form (length gs + first)) (refused number place) =
          sym missing ∙ sym (ap (λ (x : List Line). gate_on h.lines (length gs + first) (length gs) (first_line x)) q) ∙ b in
          let i : wrong_form ≡ number = cc in
          let j : length gs + first ≡ place = cc in
          ap₂ (λ (a b : ℕ). refused a b) i j
      go (l ∷ ls) q b =
          cond-false (is_end l) _ _ (sym (ap (λ (x : List Line). is_end (first_line x)) q) ∙ z)
          ∙ then_refused _ _ number place (sym (ap (λ (x : List Line). gate_on h.lines (length gs + first) (length gs) (first_line x)) q) ∙ b)

  -- the last line
  pub step_end : is_end (line_at (drop at text)) ≡ true
      → (read_from h first gs at (lines_of (drop at text)) ≡ served (record { header = h; gates = gs; taken = at + 4 })) × (at + 4 ≤ length text)
  step_end z =
      let l = line_at (drop at text) in
      let (d, b) = and_parts l.ended (same l.bytes end_word) z in
      let w : l.bytes ≡ end_word = same_true l.bytes end_word b in
      let k : line_size l ≡ 4 = ap (λ (x : List ℕ). length x + 1) w in
      let c = cut_first (drop at text) d in
      let s : length (drop at text) ≡ length l.bytes + length (line_feed ∷ drop (line_size l) (drop at text)) = ap length c.text ∙ length-append l.bytes _ in
      let t = length-drop at text in
      (go (lines_of (drop at text)) refl z d ∙ ap (λ (x : ℕ). served (record { header = h; gates = gs; taken = at + x })) k, omega arith)
    where
      go : (ls : List Line) → lines_of (drop at text) ≡ ls → is_end (line_at (drop at text)) ≡ true → (line_at (drop at text)).ended ≡ true
          → read_from h first gs at ls ≡ served (record { header = h; gates = gs; taken = at + line_size (line_at (drop at text)) })
      go [] q z d = absurd (false≢true (sym (ap (λ (ls : List Line). (first_line ls).ended) q) ∙ d))
      go (l ∷ ls) q z d =
          unfold read_from in
          cond-true (is_end l) _ _ (sym (ap (λ (x : List Line). is_end (first_line x)) q) ∙ z)
          ∙ ap (λ (x : List Line). served (record { header = h; gates = gs; taken = at + line_size (first_line x) })) (sym q)

-- ---- what the loop that judges keeps: the gates up to `at`, and that what is left from there decides

pub record Judging (h : Header) (first : ℕ) (text : List ℕ) (start at gates : ℕ) : Type 0 where
  pub passed : List Gate
  pub count : length passed ≡ gates
  pub high : h.lines ≤ max_lines
  pub few : gates ≤ max_gates
  pub inside : at ≤ length text
  pub left : read_from h first [] start (lines_of (drop start text)) ≡ read_from h first passed at (lines_of (drop at text))

module _ (h : Header) (first : ℕ) (text : List ℕ) (start at gates : ℕ) (j : Judging h first text start at gates) where
  module _ (open-line : is_end (line_at (drop at text)) ≡ false) where
    pub judging_refused : (number p : ℕ) → gate_next h.lines (gates + first) gates at (drop at text) ≡ refused number p → counts_from h first start text ≡ refused number p
    judging_refused number p e =
        then_refused _ _ _ _
        (j.left ∙ step_refused h first j.high text j.passed at j.inside open-line number p (ap (λ (k : ℕ). gate_next h.lines (k + first) k at (drop at text)) j.count ∙ e))

    module _ (next : ℕ) (read : gate_next h.lines (gates + first) gates at (drop at text) ≡ served next) where
      pub judging_step : Stepped h first text j.passed at next
      judging_step = stepped h first j.high text j.passed at j.inside open-line next (ap (λ (k : ℕ). gate_next h.lines (k + first) k at (drop at text)) j.count ∙ read)

      pub judging_turn : Judging h first text start next (gates + 1)
      judging_turn =
          let s = judging_step in
          let k = length-append j.passed (s.gate ∷ []) in
          let q = j.count in
          let m = s.few in
          record { passed = j.passed ++ (s.gate ∷ []); count = omega arith; high = j.high; few = omega arith; inside = s.inside; left = j.left ∙ s.left }

  pub judging_end : is_end (line_at (drop at text)) ≡ true → (counts_from h first start text ≡ served (record { header = h; gates = gates; taken = at + 4 })) × (at + 4 ≤ length text)
  judging_end z =
      let (e, l) = step_end h first j.high text j.passed at j.inside z in
      (then_served _ _ _ (j.left ∙ e) ∙ ap (λ (k : ℕ). served (record { header = h; gates = k; taken = at + 4 })) j.count, l)

-- ---- a text from its header on

module _ (text : List ℕ) where
  module _ (h : Header) (first next : ℕ) (s : Started text h first next) where
    -- what the judging loop told
    pub judged_bad : (number p : ℕ) → counts_from h first next text ≡ refused number p → reading text ≡ refused number p
    judged_bad number p e = s.is ∙ bad (read_from h first [] next (lines_of (drop next text))) refl
      where
        bad : (o : Outcome Reading) → read_from h first [] next (lines_of (drop next text)) ≡ o → read_from h first [] next (lines_of (drop next text)) ≡ refused number p
        bad (served c) q = absurd (never (then_served _ _ c q) e)
        bad (refused x y) q =
            let f : ◌≡◌ {A = Outcome ReadCounts} (refused x y) (refused number p) = sym (then_refused _ _ x y q) ∙ e in
            let i : x ≡ number = cc in
            let j : y ≡ p = cc in
            q ∙ ap₂ (λ (a b : ℕ). refused a b) i j

    pub judged : (k : ReadCounts) → counts_from h first next text ≡ served k
        → (c : Reading) × (reading text ≡ served c) × (counts_of c ≡ k)
    judged k e =
        let (c, a, b) = then_both (read_from h first [] next (lines_of (drop next text))) _ k e in
        (c, s.is ∙ a, unserved b)

    -- a text that was read has the lines of its gates after the header
    pub judged_good : (c : Reading) → reading text ≡ served c → GatesAt text next c.gates
    judged_good c e = go (read_from h first [] next (lines_of (drop next text))) (walked h first s.high (lines_of (drop next text)) [] next (drop next text) refl (omega arith)) (sym s.is ∙ e)
      where
        go : (o : Outcome Reading) → Walked h first [] next (drop next text) o → o ≡ served c → GatesAt text next c.gates
        go o (whole_text hs rest is v few) q =
            let x : hs ≡ c.gates = ap gates_read q in
            subst (GatesAt text next) x (record { good = valid_all_more h.lines max_lines hs s.high v; stands = record { rest = end_line ++ rest; is = is } })
        go o (stopped hs rest is v few number x) q = absurd (never q refl)

-- the call owes this where its outcome and the buffer that goes with it are known
pub read_told : (text out : List ℕ) (r o : Outcome ReadCounts) (last : List ℕ) → r ≡ o → read_outcome text (length out) ≡ o
    → last ≡ written o (words_of (gates_read (reading text))) out → Yields r last (read_outcome text (length out)) (read_buffer text out)
unfolding read_buffer
read_told text out r o last e f l = told (words_of (gates_read (reading text))) out r last (read_outcome text (length out)) o e f l
