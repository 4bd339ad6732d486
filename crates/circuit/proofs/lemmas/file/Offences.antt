-- What a reading says of its text: each line that was read is the text of what it gave, and each refusal is the first offence of its line. Assumes nothing.
use Rattle.std.proofs.Common.{◌≡◌, ℕ, ◌+◌, ◌<◌, ◌≤◌, Bool, true, false, cond, not, ◌&&◌, ◌||◌, eqb, ltb, leb, List, [], ◌∷◌, ◌++◌, map, length, drop, sym, refl, ap, ◌∙◌, subst, ap₂, true≢false, append_assoc, append-nil, arith, length-append, ltb-false, ltb-true, le-ltb, lt-ltb, eqb-true, le-leb, leb-false}
use mathlib.Core.Bool.{false≢true}
use mathlib.Core.List.{head-eq_of_cons-eq, tail-eq_of_cons-eq, cons≢nil, nil≢cons}
use borrow.Author.Tests.{lt-leb}
use Rattle.bits.proofs.Bools.{either, and_parts, both, not_held, refuted, cond-true, cond-false, and_second, or_right}
use Rattle.circuit.specs.declared.gate.Gate.{Gate}
use Rattle.circuit.specs.declared.header.Header.{Header}
use Rattle.circuit.specs.Gate.{max_lines, max_gates, valid, Control, Inside}
use Rattle.circuit.specs.Outcome.{Outcome, served, refused, demand, and_then}
use Rattle.circuit.specs.Refusal.{wrong_form, bad_line_count, line_outside}
use Rattle.circuit.specs.Words.{all_valid, line_count_good}
use Rattle.circuit.specs.Text.{tab, line_feed, plus_sign, minus_sign, lines_word, gate_word, end_word, number_text, control_text, controls_text, gate_text, gate_line, end_line, gate_lines}
use Rattle.circuit.specs.File.{Line, no_line, first_line, later_lines, lines_of, line_size, parted_by, fields_of, same, number_of, line_of, control_of, controls_from, among, rising_from, gate_of, closed_gate, gate_fields, gate_on, count_fields, count_on, is_end, Reading, read_from}
use Rattle.circuit.specs.FileLaws as laws
use Rattle.circuit.specs.FileLaws.{NumberField, ControlField, CountOffence, ControlsOffence, Among, NotRising, GoodFields, LineOffence}
use Rattle.circuit.proofs.lemmas.Outcome.{never, demand_met, demand_failed, then_served, then_refused}
use Rattle.circuit.proofs.lemmas.words.Tests.{lines_good, good_lines}
use Rattle.circuit.proofs.lemmas.file.Lines.{separated, whole, parts_back, same_true, same_self, true_same, Cut, cut_first}
use Rattle.circuit.proofs.lemmas.file.Numbers.{number_text_lem, text_number, number_wrong}
use Rattle.circuit.proofs.lemmas.file.Controls.{inside_more, controls_gate, controls_valid}
use Rattle.circuit.proofs.lemmas.file.Texts.{line_text_lem, control_text_lem, controls_text_lem, controls_tabbed, header_text}

-- ---- number fields

pub number_field : (i : ℕ) (f : List ℕ) (k : ℕ) → number_of i f ≡ served k → NumberField f k
number_field i f k e = let (h, t) = text_number i f k e in record { small = h; text = t }

pub field_number : (i : ℕ) (f : List ℕ) (k : ℕ) → NumberField f k → number_of i f ≡ served k
field_number i f k n = ap (number_of i) n.text ∙ number_text_lem i k n.small

-- a field that is no number
pub no_number : (i : ℕ) (f : List ℕ) → ((k : ℕ) → NumberField f k → ⊥) → number_of i f ≡ refused wrong_form i
no_number i f h = go (number_of i f) refl
  where
    go : (o : Outcome ℕ) → number_of i f ≡ o → number_of i f ≡ refused wrong_form i
    go (served k) e = absurd (h k (number_field i f k e))
    go (refused number place) e = number_wrong i f number place e

-- what is told of a field: a good line of the cascade, a number that is none, or no number
pub data LineField (n i : ℕ) (f : List ℕ) : Outcome ℕ → Type 0 where
  good : (k : ℕ) → NumberField f k → k < n → LineField n i f (served k)
  beyond : (k : ℕ) → NumberField f k → n ≤ k → LineField n i f (refused line_outside i)
  wrong : ((k : ℕ) → NumberField f k → ⊥) → LineField n i f (refused wrong_form i)

pub line_field : (n i : ℕ) (f : List ℕ) → LineField n i f (line_of n i f)
unfolding line_of
line_field n i f = go (number_of i f) refl
  where
    go : (o : Outcome ℕ) → number_of i f ≡ o → LineField n i f (and_then o (λ k. demand (ltb k n) line_outside i (served k)))
    go (served k) e =
        either (ltb k n)
        (λ t. rw (demand_met (ltb k n) line_outside i (served k) t) (good k (number_field i f k e) (ltb-true k n t)))
        (λ t. rw (demand_failed (ltb k n) line_outside i (served k) t) (beyond k (number_field i f k e) (ltb-false k n t)))
    go (refused number place) e =
        subst (LineField n i f) (sym (number_wrong i f number place e) ∙ e)
        (wrong (λ k h. never (field_number i f k h) e))

-- two texts of one number
same_number : (f : List ℕ) (k m : ℕ) → NumberField f k → NumberField f m → k ≡ m
same_number f k m a b =
    let e : ◌≡◌ {A = Outcome ℕ} (served k) (served m) = sym (field_number 0 f k a) ∙ field_number 0 f m b in
    cc

-- ---- control fields

sign_of : (s : ℕ) → (eqb s plus_sign || eqb s minus_sign) ≡ true → s ≡ cond (eqb s plus_sign) plus_sign minus_sign
sign_of s e =
    either (eqb s plus_sign)
    (λ t. eqb-true s plus_sign t ∙ sym (cond-true (eqb s plus_sign) plus_sign minus_sign t))
    (λ t. eqb-true s minus_sign (sym (ap (λ (b : Bool). b || eqb s minus_sign) t) ∙ e) ∙ sym (cond-false (eqb s plus_sign) plus_sign minus_sign t))

sign_true : (p : Bool) → (eqb (cond p plus_sign minus_sign) plus_sign || eqb (cond p plus_sign minus_sign) minus_sign) ≡ true
sign_true true = refl
sign_true false = refl

pub data ControlFound (n i : ℕ) (f : List ℕ) : Outcome Control → Type 0 where
  good : (c : Control) → ControlField f c → c.line < n → ControlFound n i f (served c)
  beyond : (c : Control) → ControlField f c → n ≤ c.line → ControlFound n i f (refused line_outside i)
  wrong : ((c : Control) → ControlField f c → ⊥) → ControlFound n i f (refused wrong_form i)

no_sign : (s : ℕ) (f : List ℕ) → (eqb s plus_sign || eqb s minus_sign) ≡ false → (c : Control) → ControlField (s ∷ f) c → ⊥
no_sign s f t c h =
    let e : s ≡ cond c.positive plus_sign minus_sign = head-eq_of_cons-eq h.text in
    refuted t (ap (λ (x : ℕ). eqb x plus_sign || eqb x minus_sign) e ∙ sign_true c.positive)

pub control_found : (n i : ℕ) (f : List ℕ) → ControlFound n i f (control_of n i f)
unfolding control_of
control_found n i [] = wrong (λ c h. nil≢cons h.text)
control_found n i (s ∷ f) =
    either (eqb s plus_sign || eqb s minus_sign)
    (λ t. subst (ControlFound n i (s ∷ f)) (sym (demand_met {A = Control} _ _ _ _ t)) (go t (line_of n i f) (line_field n i f)))
    (λ t. subst (ControlFound n i (s ∷ f)) (sym (demand_failed {A = Control} _ _ _ _ t)) (wrong (no_sign s f t)))
  where
    is : (eqb s plus_sign || eqb s minus_sign) ≡ true → (k : ℕ) → NumberField f k → ControlField (s ∷ f) (record { line = k; positive = eqb s plus_sign })
    is t k h = record { small = h.small; text = ap₂ (λ (x : ℕ) (l : List ℕ). x ∷ l) (sign_of s t) h.text }

    go : (eqb s plus_sign || eqb s minus_sign) ≡ true → (o : Outcome ℕ) → LineField n i f o
        → ControlFound n i (s ∷ f) (and_then o (λ k. served (record { line = k; positive = eqb s plus_sign })))
    go t o (good k h l) = good (record { line = k; positive = eqb s plus_sign }) (is t k h) l
    go t o (beyond k h l) = beyond (record { line = k; positive = eqb s plus_sign }) (is t k h) l
    go t o (wrong h) = wrong (λ c x. h c.line (record { small = x.small; text = tail-eq_of_cons-eq x.text }))

-- a field that is no control, one that is outside the cascade
control_wrong : (n i : ℕ) (f : List ℕ) (o : Outcome Control) → ControlFound n i f o → ((c : Control) → ControlField f c → ⊥) → o ≡ refused wrong_form i
control_wrong n i f o (good c x l) h = absurd (h c x)
control_wrong n i f o (beyond c x l) h = absurd (h c x)
control_wrong n i f o (wrong x) h = refl

same_line : (f : List ℕ) (c d : Control) → ControlField f c → ControlField f d → c.line ≡ d.line
same_line f c d x y =
    same_number (number_text c.line) c.line d.line (record { small = x.small; text = refl })
    (record { small = y.small; text = tail-eq_of_cons-eq (sym x.text ∙ y.text) })

control_high : (n i : ℕ) (f : List ℕ) (o : Outcome Control) → ControlFound n i f o → (c : Control) → ControlField f c → n ≤ c.line → o ≡ refused line_outside i
control_high n i f o (good d x l) c h m = absurd (omega (arith, same_line f c d h x))
control_high n i f o (beyond d x l) c h m = refl
control_high n i f o (wrong x) c h m = absurd (x c h)

-- ---- all control fields

pub data ControlsFound (n i : ℕ) (cs : List Control) (fs : List (List ℕ)) : Outcome (List Control) → Type 0 where
  good : (ds : List Control) → fs ≡ map control_text ds → Inside n ds → ControlsFound n i cs fs (served (cs ++ ds))
  bad : (number : ℕ) → ControlsOffence n fs number → ControlsFound n i cs fs (refused number i)

pub controls_found : (n i : ℕ) (fs : List (List ℕ)) (cs : List Control) → ControlsFound n i cs fs (controls_from n i cs fs)
unfolding controls_from
controls_found n i [] cs = subst (λ (l : List Control). ControlsFound n i cs [] (served l)) (append-nil cs) (good [] refl tt)
controls_found n i (f ∷ fs) cs = go (control_of n i f) (control_found n i f) (λ c. controls_found n i fs (cs ++ (c ∷ [])))
  where
    step : (c : Control) → ControlField f c → c.line < n → (o : Outcome (List Control)) → ControlsFound n i (cs ++ (c ∷ [])) fs o → ControlsFound n i cs (f ∷ fs) o
    step c h l o (good ds e w) =
        subst (λ (x : List Control). ControlsFound n i cs (f ∷ fs) (served x)) (sym (append_assoc cs (c ∷ []) ds))
        (good (c ∷ ds) (ap₂ (λ (x : List ℕ) (y : List (List ℕ)). x ∷ y) h.text e) (l, w))
    step c h l o (bad number x) = bad number (laws.later f fs c h l number x)

    go : (o : Outcome Control) → ControlFound n i f o → ((c : Control) → ControlsFound n i (cs ++ (c ∷ [])) fs (controls_from n i (cs ++ (c ∷ [])) fs))
        → ControlsFound n i cs (f ∷ fs) (and_then o (λ c. controls_from n i (cs ++ (c ∷ [])) fs))
    go o (good c h l) rec = step c h l (controls_from n i (cs ++ (c ∷ [])) fs) (rec c)
    go o (beyond c h l) rec = bad 3 (laws.value f fs c h l)
    go o (wrong h) rec = bad 1 (laws.form f fs h)

pub offence_controls : (n i : ℕ) (fs : List (List ℕ)) (number : ℕ) (cs : List Control) → n ≤ 100 → ControlsOffence n fs number → controls_from n i cs fs ≡ refused number i
unfolding controls_from
offence_controls n i fs number cs m (laws.form f gs h) = then_refused _ _ wrong_form i (control_wrong n i f _ (control_found n i f) h)
offence_controls n i fs number cs m (laws.value f gs c h l) = then_refused _ _ line_outside i (control_high n i f _ (control_found n i f) c h l)
offence_controls n i fs number cs m (laws.later f gs c h l k x) =
    then_served _ _ c (ap (control_of n i) h.text ∙ control_text_lem n i c l m) ∙ offence_controls n i gs k (cs ++ (c ∷ [])) m x

-- ---- the tests on a list of controls, as relations

pub among_true : (t : ℕ) (cs : List Control) → among t cs ≡ true → Among t cs
unfolding among
among_true t [] e = absurd (false≢true e)
among_true t (c ∷ cs) e =
    either (eqb c.line t)
    (λ x. Among.here c cs (eqb-true c.line t x))
    (λ x. Among.there c cs (among_true t cs (sym (ap (λ (b : Bool). b || among t cs) x) ∙ e)))

pub true_among : (t : ℕ) (cs : List Control) → Among t cs → among t cs ≡ true
unfolding among
true_among t cs (Among.here c ds e) = ap (λ (b : Bool). b || among t ds) (borrow.Author.Tests.eq-eqb c.line t e)
true_among t cs (Among.there c ds x) = or_right (eqb c.line t) (true_among t ds x)

falls_after : (c : Control) (cs : List Control) → rising_from (c.line + 1) cs ≡ false → NotRising (c ∷ cs)
unfolding rising_from
falls_after c [] e = absurd (true≢false e)
falls_after c (d ∷ cs) e =
    either (leb (c.line + 1) d.line)
    (λ t. NotRising.there c (d ∷ cs) (falls_after d cs (sym (ap (λ (b : Bool). b && rising_from (d.line + 1) cs) t) ∙ e)))
    (λ t. let l : d.line < c.line + 1 = leb-false (c.line + 1) d.line t in NotRising.here c d cs (omega arith))

pub controls_not_rising : (cs : List Control) → rising_from 0 cs ≡ false → NotRising cs
unfolding rising_from
controls_not_rising [] e = absurd (true≢false e)
controls_not_rising (c ∷ cs) e = falls_after c cs (sym (ap (λ (b : Bool). b && rising_from (c.line + 1) cs) (le-leb 0 c.line (omega arith))) ∙ e)

pub rising_not : (low : ℕ) (cs : List Control) → NotRising cs → rising_from low cs ≡ false
unfolding rising_from
rising_not low cs (NotRising.here c d ds l) =
    and_second (leb low c.line) (ap (λ (b : Bool). b && rising_from (d.line + 1) ds) (lt-leb (c.line + 1) d.line (omega arith)))
rising_not low cs (NotRising.there c ds x) = and_second (leb low c.line) (rising_not (c.line + 1) ds x)

-- ---- a line after the header

-- a line that has a second field is not `end`
end_fields : fields_of end_word ≡ end_word ∷ []
unfolding parted_by
end_fields = refl

two_fields : (l : Line) (f t : List ℕ) (fs : List (List ℕ)) → fields_of l.bytes ≡ f ∷ t ∷ fs → is_end l ≡ false
two_fields l f t fs e =
    not_held (is_end l) (λ x.
    let (a, b) = and_parts l.ended (same l.bytes end_word) x in
    nil≢cons (tail-eq_of_cons-eq (sym end_fields ∙ sym (ap fields_of (same_true l.bytes end_word b)) ∙ e)))

not_end : (l : Line) → is_end l ≡ false → l.bytes ≡ end_word → l.ended ≡ true → ⊥
not_end l e b d = refuted e (both d (true_same l.bytes end_word b))

pub data GateFound (n i count : ℕ) (l : Line) : Outcome Gate → Type 0 where
  good : (g : Gate) → valid n g ≡ true → l.bytes ≡ gate_text g → l.ended ≡ true → count < max_gates → GateFound n i count l (served g)
  bad : (number : ℕ) → LineOffence n i count l number → GateFound n i count l (refused number i)

-- the bytes of a gate line by its fields
gate_bytes : (l : Line) (k : ℕ) (cs : List Control) → fields_of l.bytes ≡ gate_word ∷ number_text k ∷ map control_text cs → rising_from 0 cs ≡ true → Inside max_lines cs
    → l.bytes ≡ gate_text (gate_of k cs)
unfolding separated
gate_bytes l k cs e r w =
    sym (parts_back tab l.bytes)
    ∙ ap (whole tab) e
    ∙ ap (λ (x : List ℕ). gate_word ++ (tab ∷ (number_text k ++ x))) (sym (controls_tabbed cs))
    ∙ ap (λ (x : List Control). gate_word ++ (tab ∷ (number_text k ++ controls_text x))) (sym (controls_gate k cs r w))

module _ (n i count : ℕ) (lines_high : n ≤ max_lines) (l : Line) where
  closed_found : (k : ℕ) (cs : List Control) → GoodFields n l k cs → count < max_gates → GateFound n i count l (closed_gate i l.ended k cs)
  unfolding closed_gate
  closed_found k cs h few =
      either l.ended
      (λ d.
      subst (GateFound n i count l) (sym (demand_met {A = Gate} _ _ _ _ d))
      (either (among k cs)
      (λ a. subst (GateFound n i count l) (sym (demand_failed {A = Gate} _ _ _ _ (ap not a))) (bad 4 (laws.controlled k cs h few d (among_true k cs a))))
      (λ a.
      subst (GateFound n i count l) (sym (demand_met {A = Gate} _ _ _ _ (ap not a)))
      (either (rising_from 0 cs)
      (λ r.
      subst (GateFound n i count l) (sym (demand_met {A = Gate} _ _ _ _ r))
      (good (gate_of k cs) (controls_valid n k cs h.target h.controls a r) (gate_bytes l k cs h.fields r (inside_more n max_lines cs lines_high h.controls)) d few))
      (λ r.
      subst (GateFound n i count l) (sym (demand_failed {A = Gate} _ _ _ _ r))
      (bad 5 (laws.controls_not_rising k cs h few d (λ x. refuted a (true_among k cs x)) (controls_not_rising cs r))))))))
      (λ d. subst (GateFound n i count l) (sym (demand_failed {A = Gate} _ _ _ _ d)) (bad 1 (laws.no_end k cs h few d)))

  rest_found : (t : List ℕ) (fs : List (List ℕ)) → fields_of l.bytes ≡ gate_word ∷ t ∷ fs → count < max_gates
      → GateFound n i count l (and_then (line_of n i t) (λ k. and_then (controls_from n i [] fs) (closed_gate i l.ended k)))
  rest_found t fs e few = target (line_of n i t) (line_field n i t)
    where
      then_controls : (k : ℕ) → NumberField t k → k < n → (o : Outcome (List Control)) → ControlsFound n i [] fs o → GateFound n i count l (and_then o (closed_gate i l.ended k))
      then_controls k h b o (good ds f w) =
          closed_found k ds
          (record {
            fields = e ∙ ap₂ (λ (x : List ℕ) (y : List (List ℕ)). gate_word ∷ x ∷ y) h.text f;
            target = b;
            controls = w;
          }) few
      then_controls k h b o (bad number x) = bad number (laws.controls t fs e few k h b number x)

      target : (o : Outcome ℕ) → LineField n i t o → GateFound n i count l (and_then o (λ k. and_then (controls_from n i [] fs) (closed_gate i l.ended k)))
      target o (good k h b) = then_controls k h b (controls_from n i [] fs) (controls_found n i fs [])
      target o (beyond k h b) = bad 3 (laws.target_value t fs e few k h b)
      target o (wrong h) = bad 1 (laws.target_form t fs e few h)

  pub gate_found : is_end l ≡ false → GateFound n i count l (gate_on n i count l)
  unfolding gate_fields
  gate_found z = go (fields_of l.bytes) refl
    where
      go : (fs : List (List ℕ)) → fields_of l.bytes ≡ fs → GateFound n i count l (gate_fields n i count l.ended fs)
      go [] e = bad 1 (laws.no_gate_line (λ t fs q. nil≢cons (sym e ∙ q)) (not_end l z))
      go (f ∷ []) e = bad 1 (laws.no_gate_line (λ t fs q. nil≢cons (tail-eq_of_cons-eq (sym e ∙ q))) (not_end l z))
      go (f ∷ t ∷ fs) e =
          either (same f gate_word)
          (λ s.
          let d : fields_of l.bytes ≡ gate_word ∷ t ∷ fs = e ∙ ap (λ (x : List ℕ). x ∷ t ∷ fs) (same_true f gate_word s) in
          subst (GateFound n i count l) (sym (demand_met {A = Gate} _ _ _ _ s))
          (either (ltb count max_gates)
          (λ m. subst (GateFound n i count l) (sym (demand_met {A = Gate} _ _ _ _ m)) (rest_found t fs d (ltb-true count max_gates m)))
          (λ m. subst (GateFound n i count l) (sym (demand_failed {A = Gate} _ _ _ _ m)) (bad 6 (laws.many t fs d (ltb-false count max_gates m))))))
          (λ s.
          subst (GateFound n i count l) (sym (demand_failed {A = Gate} _ _ _ _ s))
          (bad 1 (laws.no_gate_line (λ u gs q. refuted s (true_same f gate_word (head-eq_of_cons-eq (sym e ∙ q)))) (not_end l z))))

  -- ---- the other way: an offence is refused

  -- a line that starts `g` tab
  gate_start : (t : List ℕ) (fs : List (List ℕ)) → fields_of l.bytes ≡ gate_word ∷ t ∷ fs → count < max_gates
      → gate_on n i count l ≡ and_then (line_of n i t) (λ k. and_then (controls_from n i [] fs) (closed_gate i l.ended k))
  unfolding gate_fields
  gate_start t fs e few =
      ap (gate_fields n i count l.ended) e ∙ demand_met {A = Gate} _ _ _ _ (same_self gate_word) ∙ demand_met {A = Gate} _ _ _ _ (lt-ltb count max_gates few)

  gate_tested : (k : ℕ) (cs : List Control) → GoodFields n l k cs → count < max_gates → gate_on n i count l ≡ closed_gate i l.ended k cs
  gate_tested k cs h few =
      gate_start (number_text k) (map control_text cs) h.fields few
      ∙ then_served _ _ k (line_text_lem n i k h.target (omega arith))
      ∙ then_served _ _ cs (controls_text_lem n i [] cs h.controls (omega arith))

  line_wrong : (t : List ℕ) (o : Outcome ℕ) → LineField n i t o → ((k : ℕ) → NumberField t k → ⊥) → o ≡ refused wrong_form i
  line_wrong t o (good k h b) x = absurd (x k h)
  line_wrong t o (beyond k h b) x = absurd (x k h)
  line_wrong t o (wrong h) x = refl

  line_high : (t : List ℕ) (o : Outcome ℕ) → LineField n i t o → (k : ℕ) → NumberField t k → n ≤ k → o ≡ refused line_outside i
  line_high t o (good m h b) k x y = absurd (omega (arith, same_number t k m x h))
  line_high t o (beyond m h b) k x y = refl
  line_high t o (wrong h) k x y = absurd (h k x)

  pub offence_refused : (number : ℕ) → LineOffence n i count l number → gate_on n i count l ≡ refused number i
  unfolding gate_fields closed_gate
  offence_refused number (laws.no_gate_line h e) = go (fields_of l.bytes) refl
    where
      go : (fs : List (List ℕ)) → fields_of l.bytes ≡ fs → gate_fields n i count l.ended fs ≡ refused wrong_form i
      go [] q = refl
      go (f ∷ []) q = refl
      go (f ∷ t ∷ fs) q =
          demand_failed {A = Gate} _ _ _ _ (not_held (same f gate_word) (λ s. h t fs (q ∙ ap (λ (x : List ℕ). x ∷ t ∷ fs) (same_true f gate_word s))))
  offence_refused number (laws.many t fs e m) =
      ap (gate_fields n i count l.ended) e ∙ demand_met {A = Gate} _ _ _ _ (same_self gate_word) ∙ demand_failed {A = Gate} _ _ _ _ (le-ltb count max_gates m)
  offence_refused number (laws.target_form t fs e few h) =
      gate_start t fs e few ∙ then_refused _ _ wrong_form i (line_wrong t _ (line_field n i t) h)
  offence_refused number (laws.target_value t fs e few k h b) =
      gate_start t fs e few ∙ then_refused _ _ line_outside i (line_high t _ (line_field n i t) k h b)
  offence_refused number (laws.controls t fs e few k h b m x) =
      gate_start t fs e few
      ∙ then_served _ _ k (ap (line_of n i) h.text ∙ line_text_lem n i k b (omega arith))
      ∙ then_refused _ _ m i (offence_controls n i fs m [] (omega arith) x)
  offence_refused number (laws.no_end k cs h few d) = gate_tested k cs h few ∙ demand_failed {A = Gate} _ _ _ _ d
  offence_refused number (laws.controlled k cs h few d a) =
      gate_tested k cs h few ∙ demand_met {A = Gate} _ _ _ _ d ∙ demand_failed {A = Gate} _ _ _ _ (ap not (true_among k cs a))
  offence_refused number (laws.controls_not_rising k cs h few d a r) =
      gate_tested k cs h few
      ∙ demand_met {A = Gate} _ _ _ _ d
      ∙ demand_met {A = Gate} _ _ _ _ (ap not (not_held (among k cs) (λ x. a (among_true k cs x))))
      ∙ demand_failed {A = Gate} _ _ _ _ (rising_not 0 cs r)

  pub offence_open : (number : ℕ) → LineOffence n i count l number → is_end l ≡ false
  offence_open number (laws.no_gate_line h e) = not_held (is_end l) (λ x. let (a, b) = and_parts l.ended (same l.bytes end_word) x in e (same_true l.bytes end_word b) a)
  offence_open number (laws.many t fs e m) = two_fields l gate_word t fs e
  offence_open number (laws.target_form t fs e few h) = two_fields l gate_word t fs e
  offence_open number (laws.target_value t fs e few k h b) = two_fields l gate_word t fs e
  offence_open number (laws.controls t fs e few k h b m x) = two_fields l gate_word t fs e
  offence_open number (laws.no_end k cs h few d) = two_fields l gate_word (number_text k) (map control_text cs) h.fields
  offence_open number (laws.controlled k cs h few d a) = two_fields l gate_word (number_text k) (map control_text cs) h.fields
  offence_open number (laws.controls_not_rising k cs h few d a r) = two_fields l gate_word (number_text k) (map control_text cs) h.fields

-- ---- line 0

pub data HeaderFound (l : Line) : Outcome ℕ → Type 0 where
  good : (n : ℕ) → 1 ≤ n → n ≤ max_lines → l.bytes ≡ header_text n → l.ended ≡ true → HeaderFound l (served n)
  bad : (number : ℕ) → CountOffence l number → HeaderFound l (refused number 0)

header_bytes : (l : Line) (k : List ℕ) (n : ℕ) → fields_of l.bytes ≡ lines_word ∷ k ∷ [] → k ≡ number_text n → l.bytes ≡ header_text n
unfolding separated
header_bytes l k n e f =
    sym (parts_back tab l.bytes)
    ∙ ap (whole tab) e
    ∙ ap (λ (x : List ℕ). lines_word ++ (tab ∷ x)) (append-nil k ∙ f)

module _ (l : Line) where
  -- a line that starts `lines` tab, and what is told of its number
  number_found : (k : List ℕ) (fs : List (List ℕ)) → fields_of l.bytes ≡ lines_word ∷ k ∷ fs → (more : ℕ → Outcome ℕ)
      → ((n : ℕ) → NumberField k n → 1 ≤ n → n ≤ max_lines → HeaderFound l (more n))
      → HeaderFound l (and_then (number_of 0 k) (λ n. demand (line_count_good n) bad_line_count 0 (more n)))
  number_found k fs e more h = go (number_of 0 k) refl
    where
      go : (o : Outcome ℕ) → number_of 0 k ≡ o → HeaderFound l (and_then o (λ n. demand (line_count_good n) bad_line_count 0 (more n)))
      go (served n) q =
          let f = number_field 0 k n q in
          either (line_count_good n)
          (λ t. let (low, high) = lines_good n t in subst (HeaderFound l) (sym (demand_met {A = ℕ} _ _ _ _ t)) (h n f low high))
          (λ t.
          subst (HeaderFound l) (sym (demand_failed {A = ℕ} _ _ _ _ t))
          (bad 2 (laws.outside k fs e n f (λ low high. refuted t (good_lines n low high)))))
      go (refused number place) q =
          subst (HeaderFound l) (sym (number_wrong 0 k number place q) ∙ q)
          (bad 1 (laws.no_number k fs e (λ n f. never (field_number 0 k n f) q)))

  pub header_found : HeaderFound l (count_on l)
  unfolding count_fields
  header_found = go (fields_of l.bytes) refl
    where
      other : (f k : List ℕ) (fs : List (List ℕ)) → fields_of l.bytes ≡ f ∷ k ∷ fs → same f lines_word ≡ false → HeaderFound l (refused wrong_form 0)
      other f k fs e s = bad 1 (laws.no_lines (λ u gs q. refuted s (true_same f lines_word (head-eq_of_cons-eq (sym e ∙ q)))))

      word : (f k : List ℕ) (fs : List (List ℕ)) → fields_of l.bytes ≡ f ∷ k ∷ fs → same f lines_word ≡ true → fields_of l.bytes ≡ lines_word ∷ k ∷ fs
      word f k fs e s = e ∙ ap (λ (x : List ℕ). x ∷ k ∷ fs) (same_true f lines_word s)

      go : (fs : List (List ℕ)) → fields_of l.bytes ≡ fs → HeaderFound l (count_fields l.ended fs)
      go [] e = bad 1 (laws.no_lines (λ k fs q. nil≢cons (sym e ∙ q)))
      go (f ∷ []) e = bad 1 (laws.no_lines (λ k fs q. nil≢cons (tail-eq_of_cons-eq (sym e ∙ q))))
      go (f ∷ k ∷ []) e =
          either (same f lines_word)
          (λ s.
          subst (HeaderFound l) (sym (demand_met {A = ℕ} _ _ _ _ s))
          (number_found k [] (word f k [] e s) (λ n. demand l.ended wrong_form 0 (served n)) (λ n h low high.
          either l.ended
          (λ d. subst (HeaderFound l) (sym (demand_met {A = ℕ} _ _ _ _ d)) (good n low high (header_bytes l k n (word f k [] e s) h.text) d))
          (λ d. subst (HeaderFound l) (sym (demand_failed {A = ℕ} _ _ _ _ d)) (bad 1 (CountOffence.no_end k [] (word f k [] e s) n h low high (λ q x. refuted d x)))))))
          (λ s. subst (HeaderFound l) (sym (demand_failed {A = ℕ} _ _ _ _ s)) (other f k [] e s))
      go (f ∷ k ∷ x ∷ fs) e =
          either (same f lines_word)
          (λ s.
          subst (HeaderFound l) (sym (demand_met {A = ℕ} _ _ _ _ s))
          (number_found k (x ∷ fs) (word f k (x ∷ fs) e s) (λ n. refused wrong_form 0) (λ n h low high.
          bad 1 (CountOffence.no_end k (x ∷ fs) (word f k (x ∷ fs) e s) n h low high (λ q d. cons≢nil q)))))
          (λ s. subst (HeaderFound l) (sym (demand_failed {A = ℕ} _ _ _ _ s)) (other f k (x ∷ fs) e s))

  -- the other way
  pub header_refused : (number : ℕ) → CountOffence l number → count_on l ≡ refused number 0
  unfolding count_fields
  header_refused number (laws.no_lines h) = go (fields_of l.bytes) refl
    where
      wrong_word : (f k : List ℕ) (fs : List (List ℕ)) → fields_of l.bytes ≡ f ∷ k ∷ fs → same f lines_word ≡ false
      wrong_word f k fs q = not_held (same f lines_word) (λ s. h k fs (q ∙ ap (λ (x : List ℕ). x ∷ k ∷ fs) (same_true f lines_word s)))

      go : (fs : List (List ℕ)) → fields_of l.bytes ≡ fs → count_fields l.ended fs ≡ refused wrong_form 0
      go [] q = refl
      go (f ∷ []) q = refl
      go (f ∷ k ∷ []) q = demand_failed {A = ℕ} _ _ _ _ (wrong_word f k [] q)
      go (f ∷ k ∷ x ∷ fs) q = demand_failed {A = ℕ} _ _ _ _ (wrong_word f k (x ∷ fs) q)
  header_refused number (laws.no_number k [] e h) =
      ap (count_fields l.ended) e ∙ demand_met {A = ℕ} _ _ _ _ (same_self lines_word) ∙ then_refused _ _ wrong_form 0 (no_number 0 k h)
  header_refused number (laws.no_number k (x ∷ fs) e h) =
      ap (count_fields l.ended) e ∙ demand_met {A = ℕ} _ _ _ _ (same_self lines_word) ∙ then_refused _ _ wrong_form 0 (no_number 0 k h)
  header_refused number (laws.outside k [] e n h b) =
      ap (count_fields l.ended) e ∙ demand_met {A = ℕ} _ _ _ _ (same_self lines_word) ∙ then_served _ _ n (field_number 0 k n h)
      ∙ demand_failed {A = ℕ} _ _ _ _ (not_held (line_count_good n) (λ t. let (low, high) = lines_good n t in b low high))
  header_refused number (laws.outside k (x ∷ fs) e n h b) =
      ap (count_fields l.ended) e ∙ demand_met {A = ℕ} _ _ _ _ (same_self lines_word) ∙ then_served _ _ n (field_number 0 k n h)
      ∙ demand_failed {A = ℕ} _ _ _ _ (not_held (line_count_good n) (λ t. let (low, high) = lines_good n t in b low high))
  header_refused number (CountOffence.no_end k [] e n h low high b) =
      ap (count_fields l.ended) e ∙ demand_met {A = ℕ} _ _ _ _ (same_self lines_word) ∙ then_served _ _ n (field_number 0 k n h)
      ∙ demand_met {A = ℕ} _ _ _ _ (good_lines n low high)
      ∙ demand_failed {A = ℕ} _ _ _ _ (not_held l.ended (λ d. b refl d))
  header_refused number (CountOffence.no_end k (x ∷ fs) e n h low high b) =
      ap (count_fields l.ended) e ∙ demand_met {A = ℕ} _ _ _ _ (same_self lines_word) ∙ then_served _ _ n (field_number 0 k n h)
      ∙ demand_met {A = ℕ} _ _ _ _ (good_lines n low high)

-- ---- the whole text

-- a reading from the gates gs and `at` bytes on, of the rest r of a text: gate lines, then `end` or an offence
pub data Walked (h : Header) (first : ℕ) (gs : List Gate) (at : ℕ) (r : List ℕ) : Outcome Reading → Type 0 where
  whole_text : (hs : List Gate) (rest : List ℕ) → r ≡ gate_lines hs ++ (end_line ++ rest) → all_valid h.lines hs ≡ true → length gs + length hs ≤ max_gates
      → Walked h first gs at r (served (record { header = h; gates = gs ++ hs; taken = at + length (gate_lines hs ++ end_line) }))
  stopped : (hs : List Gate) (rest : List ℕ) → r ≡ gate_lines hs ++ rest → all_valid h.lines hs ≡ true → length gs + length hs ≤ max_gates
      → (number : ℕ) → LineOffence h.lines (length gs + length hs + first) (length gs + length hs) (first_line (lines_of rest)) number → Walked h first gs at r (refused number (length gs + length hs + first))

no_line_lem : (n i count : ℕ) → LineOffence n i count no_line 1
unfolding parted_by
no_line_lem n i count = laws.no_gate_line (λ t fs q. nil≢cons (tail-eq_of_cons-eq q)) (λ b d. false≢true d)

-- a line that was cut off, and the text after it
joined : (r : List ℕ) (l : Line) (ls : List Line) (g : Gate) → l.bytes ≡ gate_text g → Cut r l ls → (x : List ℕ) (hs : List Gate) → drop (line_size l) r ≡ gate_lines hs ++ x
    → r ≡ (gate_line g ++ gate_lines hs) ++ x
joined r l ls g b c x hs q =
    c.text
    ∙ ap₂ (λ (y z : List ℕ). y ++ (line_feed ∷ z)) b q
    ∙ sym (append_assoc (gate_text g) (line_feed ∷ []) (gate_lines hs ++ x))
    ∙ sym (append_assoc (gate_line g) (gate_lines hs) x)

module _ (h : Header) (first : ℕ) (lines_high : h.lines ≤ max_lines) where
  pub walked : (ls : List Line) (gs : List Gate) (at : ℕ) (r : List ℕ) → lines_of r ≡ ls → length gs ≤ max_gates → Walked h first gs at r (read_from h first gs at ls)
  unfolding read_from all_valid gate_lines
  walked [] gs at r e few =
      let o : length gs + 0 ≡ length gs = omega arith in
      subst (λ (k : ℕ). Walked h first gs at r (refused wrong_form (k + first))) o
      (stopped [] r refl refl (omega arith) 1 (subst (λ (l : Line). LineOffence h.lines (length gs + 0 + first) (length gs + 0) l 1) (sym (ap first_line e)) (no_line_lem h.lines (length gs + 0 + first) (length gs + 0))))
  walked (l ∷ ls) gs at r e few =
      either (is_end l)
      (λ z.
      let (d, b) = and_parts l.ended (same l.bytes end_word) z in
      let c = cut (cut_first r (ap (λ (x : List Line). (first_line x).ended) e ∙ d)) in
      subst (Walked h first gs at r) (sym (cond-true (is_end l) _ _ z))
      (subst (λ (k : ℕ). Walked h first gs at r (served (record { header = h; gates = gs; taken = at + k })))
      (sym (ap (λ (x : List ℕ). length x + 1) (same_true l.bytes end_word b)))
      (subst (λ (x : List Gate). Walked h first gs at r (served (record { header = h; gates = x; taken = at + 4 }))) (append-nil gs)
      (whole_text [] (drop (line_size l) r)
      (c.text ∙ ap (λ (x : List ℕ). x ++ (line_feed ∷ drop (line_size l) r)) (same_true l.bytes end_word b)) refl (omega arith)))))
      (λ z.
      subst (Walked h first gs at r) (sym (cond-false (is_end l) _ _ z))
      (go (gate_on h.lines (length gs + first) (length gs) l) (gate_found h.lines (length gs + first) (length gs) lines_high l z)
      (λ g m c. walked ls (gs ++ (g ∷ [])) (at + line_size l) (drop (line_size l) r) c.later (omega (arith, length-append gs (g ∷ []))))))
    where
      cut : Cut r (first_line (lines_of r)) (later_lines (lines_of r)) → Cut r l ls
      cut c = subst (λ (x : List Line). Cut r (first_line x) (later_lines x)) e c

      onward : (g : Gate) → valid h.lines g ≡ true → l.bytes ≡ gate_text g → Cut r l ls → (o : Outcome Reading) → Walked h first (gs ++ (g ∷ [])) (at + line_size l) (drop (line_size l) r) o → Walked h first gs at r o
      onward g v b c o (whole_text hs rest q w m) =
          let k : length (gs ++ (g ∷ [])) ≡ length gs + 1 = length-append gs (g ∷ []) in
          let s : line_size l ≡ length (gate_text g) + 1 = ap (λ (x : List ℕ). length x + 1) b in
          let z : length (gate_line g) ≡ length (gate_text g) + 1 = length-append (gate_text g) (line_feed ∷ []) in
          let a1 = length-append (gate_lines hs) end_line in
          let a2 = length-append (gate_line g ++ gate_lines hs) end_line in
          let a3 = length-append (gate_line g) (gate_lines hs) in
          let t : at + length (gate_lines (g ∷ hs) ++ end_line) ≡ at + line_size l + length (gate_lines hs ++ end_line) = omega arith in
          subst (λ (x : List Gate). Walked h first gs at r (served (record { header = h; gates = x; taken = at + line_size l + length (gate_lines hs ++ end_line) })))
          (sym (append_assoc gs (g ∷ []) hs))
          (subst (λ (x : ℕ). Walked h first gs at r (served (record { header = h; gates = gs ++ (g ∷ hs); taken = x }))) t
          (whole_text (g ∷ hs) rest (joined r l ls g b c (end_line ++ rest) hs q) (both v w) (omega arith)))
      onward g v b c o (stopped hs rest q w m number x) =
          let k : length (gs ++ (g ∷ [])) ≡ length gs + 1 = length-append gs (g ∷ []) in
          let p : length gs + length (g ∷ hs) ≡ length (gs ++ (g ∷ [])) + length hs = omega arith in
          subst (λ (y : ℕ). Walked h first gs at r (refused number (y + first))) p
          (stopped (g ∷ hs) rest (joined r l ls g b c rest hs q) (both v w) (omega arith) number
          (subst (λ (y : ℕ). LineOffence h.lines (y + first) y (first_line (lines_of rest)) number) (sym p) x))

      go : (o : Outcome Gate) → GateFound h.lines (length gs + first) (length gs) l o
          → ((g : Gate) → length gs < max_gates → Cut r l ls → Walked h first (gs ++ (g ∷ [])) (at + line_size l) (drop (line_size l) r) (read_from h first (gs ++ (g ∷ [])) (at + line_size l) ls))
          → Walked h first gs at r (and_then o (λ g. read_from h first (gs ++ (g ∷ [])) (at + line_size l) ls))
      go o (good g v b d m) more =
          let c = cut (cut_first r (ap (λ (x : List Line). (first_line x).ended) e ∙ d)) in
          onward g v b c (read_from h first (gs ++ (g ∷ [])) (at + line_size l) ls) (more g m c)
      go o (bad number x) more =
          let p : length gs + 0 ≡ length gs = omega arith in
          subst (λ (k : ℕ). Walked h first gs at r (refused number (k + first))) p
          (stopped [] r refl refl (omega arith) number
          (subst (λ (y : ℕ). LineOffence h.lines (y + first) y (first_line (lines_of r)) number) (sym p) (subst (λ (y : Line). LineOffence h.lines (length gs + first) (length gs) y number) (sym (ap first_line e)) x)))
