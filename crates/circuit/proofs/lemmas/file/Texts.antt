-- Reading the text of a cascade, line by line. Assumes nothing.
use Rattle.std.proofs.Common.{◌≡◌, ℕ, ◌+◌, ◌<◌, ◌≤◌, Bool, true, false, cond, not, eqb, List, [], ◌∷◌, ◌++◌, map, length, sym, refl, ap, ◌∙◌, ap₂, append_assoc, append-nil, arith, length-append, lt-ltb}
use Rattle.bits.proofs.Bools.{and_parts, both}
use Rattle.bits.proofs.Lists.{free, free_append}
use Rattle.circuit.specs.declared.gate.Gate.{Gate}
use Rattle.circuit.specs.declared.header.Header.{Header}
use Rattle.circuit.specs.Gate.{max_lines, max_gates, valid, Control, Inside, controls_of}
use Rattle.circuit.specs.Outcome.{served}
use Rattle.circuit.specs.Words.{all_valid}
use Rattle.circuit.specs.Text.{tab, line_feed, plus_sign, minus_sign, lines_word, gate_word, number_text, control_text, controls_text, gate_text, count_line, gate_line, gate_lines}
use Rattle.circuit.specs.File.{lines_of, fields_of, same, line_of, control_of, controls_from, among, rising_from, gate_of, closed_gate, gate_fields, gate_on, count_fields, count_on, read_from}
use Rattle.circuit.proofs.lemmas.Outcome.{demand_met, then_served}
use Rattle.circuit.proofs.lemmas.gate.Valid.{valid_facts, valid_more}
use Rattle.circuit.proofs.lemmas.words.Tests.{good_lines}
use Rattle.circuit.proofs.lemmas.file.Lines.{lines_cut, separated, parts_cut, parts_one, all_free, parts_joined, same_self}
use Rattle.circuit.proofs.lemmas.file.Numbers.{number_free, number_text_lem}
use Rattle.circuit.proofs.lemmas.file.Controls.{gate_controls, target_apart, controls_rising, controls_inside}

-- ---- fields

pub line_text_lem : (n i k : ℕ) → k < n → n ≤ 100 → line_of n i (number_text k) ≡ served k
unfolding line_of
line_text_lem n i k h l = then_served _ _ k (number_text_lem i k (omega arith)) ∙ demand_met _ _ _ _ (lt-ltb k n h)

pub control_text_lem : (n i : ℕ) (c : Control) → c.line < n → n ≤ 100 → control_of n i (control_text c) ≡ served c
control_text_lem n i c h l = signed c.positive c.line h
  where
    signed : (p : Bool) (k : ℕ) → k < n → control_of n i (cond p plus_sign minus_sign ∷ number_text k) ≡ served (record { line = k; positive = p })
    signed true k h = unfold control_of in then_served _ _ k (line_text_lem n i k h l)
    signed false k h = unfold control_of in then_served _ _ k (line_text_lem n i k h l)

pub controls_text_lem : (n i : ℕ) (cs ds : List Control) → Inside n ds → n ≤ 100 → controls_from n i cs (map control_text ds) ≡ served (cs ++ ds)
unfolding controls_from
controls_text_lem n i cs [] w l = ap served (sym (append-nil cs))
controls_text_lem n i cs (d ∷ ds) w l =
    then_served _ _ d (control_text_lem n i d w.0 l)
    ∙ controls_text_lem n i (cs ++ (d ∷ [])) ds w.1 l
    ∙ ap served (append_assoc cs (d ∷ []) ds)

-- the controls of a line are fields, each after a tab
pub controls_tabbed : (cs : List Control) → controls_text cs ≡ separated tab (map control_text cs)
unfolding controls_text separated
controls_tabbed [] = refl
controls_tabbed (c ∷ cs) = ap (λ (l : List ℕ). (tab ∷ control_text c) ++ l) (controls_tabbed cs)

control_free : (s : ℕ) (c : Control) → s < 43 → c.line < 100 → free s (control_text c) ≡ true
unfolding free
control_free s c h l = both (sign c.positive) (number_free s c.line (omega arith) l)
  where
    sign : (p : Bool) → not (eqb (cond p plus_sign minus_sign) s) ≡ true
    sign true = ap not (borrow.Author.Tests.ne_eqb plus_sign s (λ e. omega arith))
    sign false = ap not (borrow.Author.Tests.ne_eqb minus_sign s (λ e. omega arith))

pub controls_free : (s n : ℕ) (cs : List Control) → s < 43 → n ≤ 100 → Inside n cs → all_free s (map control_text cs) ≡ true
unfolding all_free
controls_free s n [] h l w = refl
controls_free s n (c ∷ cs) h l w = both (control_free s c h (omega (arith, w.0))) (controls_free s n cs h l w.1)

tabbed_free : (fs : List (List ℕ)) → all_free line_feed fs ≡ true → free line_feed (separated tab fs) ≡ true
unfolding free separated all_free
tabbed_free [] p = refl
tabbed_free (f ∷ fs) p = let (a, b) = and_parts (free line_feed f) (all_free line_feed fs) p in free_append line_feed f (separated tab fs) a (tabbed_free fs b)

-- ---- a gate line

module _ (n : ℕ) (lines_high : n ≤ max_lines) where
  -- its fields
  pub gate_fields_lem : (t : ℕ) (cs : List Control) → t < n → Inside n cs
      → fields_of (gate_word ++ (tab ∷ (number_text t ++ controls_text cs))) ≡ gate_word ∷ number_text t ∷ map control_text cs
  unfolding free
  gate_fields_lem t cs h w =
      parts_cut tab gate_word (number_text t ++ controls_text cs) refl
      ∙ ap (λ (l : List (List ℕ)). gate_word ∷ l)
      (ap (λ (x : List ℕ). fields_of (number_text t ++ x)) (controls_tabbed cs)
      ∙ parts_joined tab (number_text t) (map control_text cs) (number_free tab t (omega arith) (omega arith)) (controls_free tab n cs (omega arith) (omega arith) w))

  -- its bytes have no LF
  pub gate_free : (t : ℕ) (cs : List Control) → t < n → Inside n cs → free line_feed (gate_word ++ (tab ∷ (number_text t ++ controls_text cs))) ≡ true
  unfolding free
  gate_free t cs h w =
      free_append line_feed (number_text t) (controls_text cs) (number_free line_feed t (omega arith) (omega arith))
      (ap (free line_feed) (controls_tabbed cs) ∙ tabbed_free (map control_text cs) (controls_free line_feed n cs (omega arith) (omega arith) w))

  pub gate_line_lem : (g : Gate) (r : List ℕ) → valid n g ≡ true → lines_of (gate_line g ++ r) ≡ record { bytes = gate_text g; ended = true } ∷ lines_of r
  gate_line_lem g r v =
      ap lines_of (append_assoc (gate_text g) (line_feed ∷ []) r)
      ∙ lines_cut (gate_text g) r (gate_free g.target (controls_of g) (valid_facts n g v).target_below (controls_inside n g v max_lines))

  -- controls that rise and leave the target out
  closed_good : (i t : ℕ) (cs : List Control) → among t cs ≡ false → rising_from 0 cs ≡ true → closed_gate i true t cs ≡ served (gate_of t cs)
  unfolding closed_gate
  closed_good i t cs a r = simp (a, r)

  pub gate_read : (g : Gate) (i count : ℕ) → valid n g ≡ true → count < max_gates → gate_on n i count (record { bytes = gate_text g; ended = true }) ≡ served g
  unfolding gate_fields
  gate_read g i count v few =
      let w = controls_inside n g v max_lines in
      let t = (valid_facts n g v).target_below in
      let m = valid_more n max_lines g lines_high v in
      ap (gate_fields n i count true) (gate_fields_lem g.target (controls_of g) t w)
      ∙ demand_met _ _ _ _ (same_self gate_word)
      ∙ demand_met _ _ _ _ (lt-ltb count max_gates few)
      ∙ then_served _ _ g.target (line_text_lem n i g.target t (omega arith))
      ∙ then_served _ _ (controls_of g) (controls_text_lem n i [] (controls_of g) w (omega arith))
      ∙ closed_good i g.target (controls_of g) (target_apart g m) (controls_rising g)
      ∙ ap served (gate_controls g m)

-- the gate lines of a cascade
module _ (h : Header) (lines_high : h.lines ≤ max_lines) where
  pub gates_read_lem : (first : ℕ) (hs gs : List Gate) (at : ℕ) (r : List ℕ) → all_valid h.lines hs ≡ true → length gs + length hs ≤ max_gates
      → read_from h first gs at (lines_of (gate_lines hs ++ r)) ≡ read_from h first (gs ++ hs) (at + length (gate_lines hs)) (lines_of r)
  unfolding gate_lines all_valid read_from same
  gates_read_lem first [] gs at r v few =
      let e : at ≡ at + 0 = omega arith in
      ap₂ (λ (l : List Gate) (k : ℕ). read_from h first l k (lines_of r)) (sym (append-nil gs)) e
  gates_read_lem first (g ∷ hs) gs at r v few =
      let (a, b) = and_parts (valid h.lines g) (all_valid h.lines hs) v in
      let k : length (gs ++ (g ∷ [])) ≡ length gs + 1 = length-append gs (g ∷ []) in
      let z : length (gate_line g) ≡ length (gate_text g) + 1 = length-append (gate_text g) (line_feed ∷ []) in
      let m : length (gate_line g ++ gate_lines hs) ≡ length (gate_line g) + length (gate_lines hs) = length-append (gate_line g) (gate_lines hs) in
      let e : at + (length (gate_text g) + 1) + length (gate_lines hs) ≡ at + length (gate_line g ++ gate_lines hs) = omega arith in
      ap (λ (x : List ℕ). read_from h first gs at (lines_of x)) (append_assoc (gate_line g) (gate_lines hs) r)
      ∙ ap (read_from h first gs at) (gate_line_lem h.lines lines_high g (gate_lines hs ++ r) a)
      ∙ then_served _ _ g (gate_read h.lines lines_high g (length gs + first) (length gs) a (omega arith))
      ∙ gates_read_lem first hs (gs ++ (g ∷ [])) (at + (length (gate_text g) + 1)) r b (omega arith)
      ∙ ap₂ (λ (l : List Gate) (q : ℕ). read_from h first l q (lines_of r)) (append_assoc gs (g ∷ []) hs) e

-- ---- the header and `end`

abbrev pub header_text : ℕ → List ℕ
header_text n = lines_word ++ (tab ∷ number_text n)

pub count_fields_lem : (n : ℕ) → n ≤ max_lines → fields_of (header_text n) ≡ lines_word ∷ number_text n ∷ []
unfolding free
count_fields_lem n h =
    parts_cut tab lines_word (number_text n) refl
    ∙ ap (λ (l : List (List ℕ)). lines_word ∷ l) (parts_one tab (number_text n) (number_free tab n (omega arith) (omega arith)))

pub count_line_lem : (n : ℕ) (r : List ℕ) → n ≤ max_lines → lines_of (count_line n ++ r) ≡ record { bytes = header_text n; ended = true } ∷ lines_of r
unfolding free
count_line_lem n r h =
    ap (λ (x : List ℕ). lines_of (lines_word ++ (tab ∷ x))) (append_assoc (number_text n) (line_feed ∷ []) r)
    ∙ lines_cut (header_text n) r (number_free line_feed n (omega arith) (omega arith))

pub header_read_lem : (n : ℕ) → 1 ≤ n → n ≤ max_lines → count_on (record { bytes = header_text n; ended = true }) ≡ served n
unfolding count_fields
header_read_lem n low high =
    ap (count_fields true) (count_fields_lem n high)
    ∙ demand_met _ _ _ _ (same_self lines_word)
    ∙ then_served _ _ n (number_text_lem 0 n (omega arith))
    ∙ demand_met _ _ _ _ (good_lines n low high)
