-- The laws of what stands at a position of a text that was judged good: a number, the controls of a line, the lines of gates. Assumes nothing.
use Rattle.std.proofs.Common.{◌≡◌, ℕ, ◌+◌, ◌-◌, ◌*◌, ◌/◌, ◌%◌, ◌^◌, ◌<◌, ◌≤◌, Bool, true, false, cond, not, eqb, ltb, List, [], ◌∷◌, ◌++◌, length, get_or, take, drop, sym, refl, ap, ◌∙◌, subst, ap₂, append_assoc, append-nil, arith, length-append, length-drop, get_or-drop, drop-drop, ltb-false, ltb-true}
use mathlib.Core.Bool.{beq}
use lib.Bits.{bit_or}
use lib.Seq.{drop-append_seam}
use borrow.Rule.Slice.PartMut.{put_mid}
use Rattle.bits.specs.Lists.{over}
use Rattle.bits.proofs.Bools.{either, and_parts, table₁}
use Rattle.bits.proofs.Lists.{lent_over}
use Rattle.circuit.specs.declared.gate.Gate.{Gate}
use Rattle.circuit.specs.Gate.{max_lines, valid, Control, Inside, controls_of}
use Rattle.circuit.specs.Words.{gate_words, words_of, all_valid}
use Rattle.circuit.specs.declared.file.scan.Numeral.{Numeral}
use Rattle.circuit.specs.declared.file.fill.GateRead.{GateRead}
use Rattle.circuit.specs.Text.{tab, line_feed, plus_sign, minus_sign, digit, number_text, control_text, controls_text, gate_line, gate_lines}
use Rattle.circuit.specs.File.{mask_of, gate_of}
use Rattle.circuit.specs.private.Fill.{StandsAt, NumberAt, ControlsAt, GateAt, GatesAt}
use Rattle.circuit.proofs.lemmas.gate.Valid.{valid_facts}
use Rattle.circuit.proofs.lemmas.words.Gates.{words_append, words_length}
use Rattle.circuit.proofs.lemmas.file.Numbers.{text_short, text_long}
use Rattle.circuit.proofs.lemmas.file.Controls.{mask_push, gate_controls, controls_inside}

-- ---- bytes

module _ (text : List ℕ) (at : ℕ) where
  -- the first one
  pub byte_there : (b : ℕ) (bytes : List ℕ) → StandsAt text at (b ∷ bytes) → (get_or text at 0 ≡ b) × (at < length text)
  byte_there b bytes s =
      let e : at ≡ at + 0 = omega arith in
      (ap (λ (k : ℕ). get_or text k 0) e ∙ sym (get_or-drop at text 0 0) ∙ ap (λ (l : List ℕ). get_or l 0 0) s.is, omega (arith, length-drop at text, ap length s.is))

  -- the first ones alone, and those after them
  pub front : (xs ys : List ℕ) → StandsAt text at (xs ++ ys) → StandsAt text at xs
  front xs ys s = record { rest = ys ++ s.rest; is = s.is ∙ append_assoc xs ys s.rest }

  pub later : (xs ys : List ℕ) → StandsAt text at (xs ++ ys) → StandsAt text (at + length xs) ys
  later xs ys s =
      record {
        rest = s.rest;
        is = sym (drop-drop (length xs) at text) ∙ ap (drop (length xs)) (s.is ∙ append_assoc xs ys s.rest) ∙ drop-append_seam xs (ys ++ s.rest);
      }

  pub restated : (xs ys : List ℕ) → xs ≡ ys → StandsAt text at xs → StandsAt text at ys
  restated xs ys e s = record { rest = s.rest; is = s.is ∙ ap (λ (l : List ℕ). l ++ s.rest) e }

-- ---- a number

-- by its digits: one and a byte below the digits, or two
pub data Digits (text : List ℕ) (at k : ℕ) : Type 0 where
  one : k < 10 → get_or text at 0 ≡ 48 + k → get_or text (at + 1) 0 < 48 → length (number_text k) ≡ 1 → Digits text at k
  two : 10 ≤ k → get_or text at 0 ≡ 48 + k / 10 → get_or text (at + 1) 0 ≡ 48 + k % 10 → length (number_text k) ≡ 2 → Digits text at k

module _ (text : List ℕ) (at k : ℕ) (n : NumberAt text at k) where
  module _ (a b : ℕ) (more : List ℕ) (is : number_text k ++ (n.after ∷ []) ≡ a ∷ b ∷ more) where
    stands : StandsAt text at (a ∷ b ∷ more)
    stands = restated text at _ (a ∷ b ∷ more) is n.stands

    bytes : (get_or text at 0 ≡ a) × (get_or text (at + 1) 0 ≡ b) × (at + 1 < length text)
    bytes =
        let (x, y) = byte_there text at a (b ∷ more) stands in
        let (z, w) = byte_there text (at + 1) b more (later text at (a ∷ []) (b ∷ more) stands) in
        (x, z, w)

  pub digits_there : (Digits text at k) × (at + 1 < length text)
  digits_there =
      either (ltb k 10)
      (λ t.
      let h : k < 10 = ltb-true k 10 t in
      let (a, b, c) = bytes (digit k) n.after [] (ap (λ (l : List ℕ). l ++ (n.after ∷ [])) (text_short k h)) in
      (one h a (omega (arith, n.low)) (ap length (text_short k h)), c))
      (λ t.
      let h : 10 ≤ k = ltb-false k 10 t in
      let (a, b, c) = bytes (digit (k / 10)) (digit (k % 10)) (n.after ∷ []) (ap (λ (l : List ℕ). l ++ (n.after ∷ [])) (text_long k h)) in
      (two h a b (ap length (text_long k h)), c))

  -- what its two bytes tell
  module _ (a b : ℕ) (first : a ≡ get_or text at 0) (second : b ≡ get_or text (at + 1) 0) where
    pub number_low : (48 ≤ a) × (a ≤ 57)
    number_low = go digits_there.0
      where
        go : Digits text at k → (48 ≤ a) × (a ≤ 57)
        go (one h x y w) = (omega arith, omega arith)
        go (two h x y w) = let s = n.small in (omega arith, omega arith)

    pub number_one : b < 48 → ◌≡◌ {A = Numeral} (record { value = a - 48; next = at + 1 }) (record { value = k; next = at + length (number_text k) })
    number_one l = go digits_there.0
      where
        go : Digits text at k → ◌≡◌ {A = Numeral} (record { value = a - 48; next = at + 1 }) (record { value = k; next = at + length (number_text k) })
        go (one h x y w) =
            let v : a - 48 ≡ k = omega arith in
            let p : at + 1 ≡ at + length (number_text k) = omega arith in
            ap₂ (λ (v p : ℕ). record { value = v; next = p }) v p
        go (two h x y w) = absurd (omega arith)

    pub number_two : 48 ≤ b
        → (b ≤ 57) × (◌≡◌ {A = Numeral} (record { value = 10 * (a - 48) + (b - 48); next = at + 2 }) (record { value = k; next = at + length (number_text k) }))
    number_two l = go digits_there.0
      where
        go : Digits text at k
            → (b ≤ 57) × (◌≡◌ {A = Numeral} (record { value = 10 * (a - 48) + (b - 48); next = at + 2 }) (record { value = k; next = at + length (number_text k) }))
        go (one h x y w) = absurd (omega arith)
        go (two h x y w) =
            let v : 10 * (a - 48) + (b - 48) ≡ k = omega arith in
            let p : at + 2 ≡ at + length (number_text k) = omega arith in
            (omega arith, ap₂ (λ (v p : ℕ). record { value = v; next = p }) v p)

-- ---- the controls of a line

-- what ends a line's number: the tab of a control, or the LF
tail_first : (cs : List Control) → (b : ℕ) × (l : List ℕ) × (b < 48) × (controls_text cs ++ (line_feed ∷ []) ≡ b ∷ l)
unfolding controls_text
tail_first [] = (line_feed, [], omega arith, refl)
tail_first (c ∷ cs) = (tab, (control_text c ++ controls_text cs) ++ (line_feed ∷ []), omega arith, refl)

-- a number, and the controls after it
pub record Parted (text : List ℕ) (at k : ℕ) (cs : List Control) : Type 0 where
  pub number : NumberAt text at k
  pub controls : ControlsAt text (at + length (number_text k)) cs

pub parted : (text : List ℕ) (at k : ℕ) (cs : List Control) → k < 100 → Inside max_lines cs → StandsAt text at (number_text k ++ (controls_text cs ++ (line_feed ∷ []))) → Parted text at k cs
parted text at k cs h i s =
    let (b, l, low, e) = tail_first cs in
    record {
      number =
          record {
            small = h;
            after = b;
            low = low;
            stands =
                front text at (number_text k ++ (b ∷ [])) l
                (restated text at _ _ (ap (λ (x : List ℕ). number_text k ++ x) e ∙ sym (append_assoc (number_text k) (b ∷ []) l)) s);
          };
      controls = record { lines = i; stands = later text at (number_text k) (controls_text cs ++ (line_feed ∷ [])) s };
    }

-- the first control: its tab, its sign and its line, and the controls after it
pub record Control₁ (text : List ℕ) (at : ℕ) (c : Control) (cs : List Control) : Type 0 where
  pub tabbed : get_or text at 0 ≡ tab
  pub signed : get_or text (at + 1) 0 ≡ cond c.positive plus_sign minus_sign
  pub inside : at + 1 < length text
  pub below : c.line < max_lines
  pub line : NumberAt text (at + 2) c.line
  pub more : ControlsAt text (at + 2 + length (number_text c.line)) cs

pub first_control : (text : List ℕ) (at : ℕ) (c : Control) (cs : List Control) → ControlsAt text at (c ∷ cs) → Control₁ text at c cs
unfolding controls_text
first_control text at c cs s =
    let (h, i) = s.lines in
    let (a, x) = byte_there text at tab _ s.stands in
    let (b, y) = byte_there text (at + 1) (cond c.positive plus_sign minus_sign) _ (later text at (tab ∷ []) _ s.stands) in
    let p =
    parted text (at + 2) c.line cs (omega (arith, h)) i
    (restated text (at + 2) _ _ (append_assoc (number_text c.line) (controls_text cs) (line_feed ∷ []))
    (later text at (tab ∷ cond c.positive plus_sign minus_sign ∷ []) _ s.stands)) in
    record { tabbed = a; signed = b; inside = y; below = h; line = p.number; more = p.controls }

-- whether it is positive
pub sign_told : (b : ℕ) (p : Bool) → b ≡ cond p plus_sign minus_sign → eqb b plus_sign ≡ p
sign_told b true e = ap (λ (x : ℕ). eqb x plus_sign) e
sign_told b false e = ap (λ (x : ℕ). eqb x plus_sign) e

-- after the last one
pub no_control : (text : List ℕ) (at : ℕ) → ControlsAt text at [] → (get_or text at 0 ≡ line_feed) × (at < length text)
unfolding controls_text
no_control text at s = byte_there text at line_feed [] s.stands

pub control_inside : (text : List ℕ) (at : ℕ) (cs : List Control) → ControlsAt text at cs → at < length text
control_inside text at [] s = (no_control text at s).1
control_inside text at (c ∷ cs) s = omega (arith, (first_control text at c cs s).inside)

-- what the loop over the controls keeps: those before `at` are in the masks, and the others stand there
pub record Passing (text : List ℕ) (first : ℕ) (cs : List Control) (at positive negative : ℕ) : Type 0 where
  pub passed : List Control
  pub left : List Control
  pub parts : passed ++ left ≡ cs
  pub here : ControlsAt text at left
  pub end : at + length (controls_text left) ≡ first + length (controls_text cs)
  pub on : positive ≡ mask_of true passed
  pub off : negative ≡ mask_of false passed

pub passing_start : (text : List ℕ) (first : ℕ) (cs : List Control) → ControlsAt text first cs → Passing text first cs first 0 0
unfolding mask_of
passing_start text first cs s = record { passed = []; left = cs; parts = refl; here = s; end = refl; on = refl; off = refl }

module _ (text : List ℕ) (first : ℕ) (cs : List Control) (at positive negative : ℕ) (p : Passing text first cs at positive negative) where
  pub passing_inside : at < length text
  passing_inside = control_inside text at p.left p.here

  -- a tab: one control more
  pub record Next : Type 0 where
    pub control : Control
    pub signed : get_or text (at + 1) 0 ≡ cond control.positive plus_sign minus_sign
    pub inside : at + 1 < length text
    pub below : control.line < max_lines
    pub line : NumberAt text (at + 2) control.line
    pub step : (next on off : ℕ) → next ≡ at + 2 + length (number_text control.line)
        → on ≡ bit_or positive (cond control.positive (2 ^ control.line) 0) → off ≡ bit_or negative (cond (not control.positive) (2 ^ control.line) 0)
        → Passing text first cs next on off
    pub onward : at + 2 + length (number_text control.line) < length text

  pub passing_next : get_or text at 0 ≡ tab → Next
  passing_next t = go p.left refl
    where
      go : (l : List Control) → p.left ≡ l → Next
      go [] e = absurd (omega (arith, (no_control text at (subst (ControlsAt text at) e p.here)).0))
      go (c ∷ ds) e =
          let f = first_control text at c ds (subst (ControlsAt text at) e p.here) in
          record {
            control = c;
            signed = f.signed;
            inside = f.inside;
            below = f.below;
            line = f.line;
            onward = control_inside text _ ds f.more;
            step = λ next on off q x y.
                record {
                  passed = p.passed ++ (c ∷ []);
                  left = ds;
                  parts = append_assoc p.passed (c ∷ []) ds ∙ ap (λ (l : List Control). p.passed ++ l) (sym e) ∙ p.parts;
                  here = subst (λ (k : ℕ). ControlsAt text k ds) (sym q) f.more;
                  end = omega (arith, p.end, ap (λ (l : List Control). length (controls_text l)) e, text_more c ds);
                  on = x ∙ ap (λ (m : ℕ). bit_or m (cond c.positive (2 ^ c.line) 0)) p.on ∙ sym (mask_push true p.passed c ∙ ap (λ (b : Bool). bit_or (mask_of true p.passed) (cond b (2 ^ c.line) 0)) (is c.positive));
                  off = y ∙ ap (λ (m : ℕ). bit_or m (cond (not c.positive) (2 ^ c.line) 0)) p.off ∙ sym (mask_push false p.passed c ∙ ap (λ (b : Bool). bit_or (mask_of false p.passed) (cond b (2 ^ c.line) 0)) (isnt c.positive));
                };
          }
        where
          is : (p : Bool) → beq p true ≡ p
          is = table₁ _ _ refl

          isnt : (p : Bool) → beq p false ≡ not p
          isnt = table₁ _ _ refl

          text_more : (c : Control) (ds : List Control) → length (controls_text (c ∷ ds)) ≡ 2 + length (number_text c.line) + length (controls_text ds)
          text_more c ds = unfold controls_text in omega (arith, length-append (number_text c.line) (controls_text ds))

  -- no tab: all of them are in the masks
  pub passing_done : (get_or text at 0 ≡ tab → ⊥) → (t : ℕ)
      → (record { positive = positive; negative = negative; target = t } ≡ gate_of t cs) × (at + 1 ≡ first + length (controls_text cs) + 1)
  passing_done n t = go p.left refl
    where
      go : (l : List Control) → p.left ≡ l → (record { positive = positive; negative = negative; target = t } ≡ gate_of t cs) × (at + 1 ≡ first + length (controls_text cs) + 1)
      go (c ∷ ds) e = absurd (n (first_control text at c ds (subst (ControlsAt text at) e p.here)).tabbed)
      go [] e =
          let all : p.passed ≡ cs = sym (append-nil p.passed) ∙ ap (λ (l : List Control). p.passed ++ l) (sym e) ∙ p.parts in
          let none : length (controls_text []) ≡ 0 = unfold controls_text in refl in
          (ap₂ (λ (x y : ℕ). record { positive = x; negative = y; target = t }) (p.on ∙ ap (mask_of true) all) (p.off ∙ ap (mask_of false) all), omega (arith, p.end, ap (λ (l : List Control). length (controls_text l)) e, none))

-- ---- the line of a gate

pub gate_parts : (text : List ℕ) (at : ℕ) (g : Gate) → GateAt text at g → Parted text (at + 2) g.target (controls_of g)
gate_parts text at g s =
    let v = valid_facts max_lines g s.good in
    parted text (at + 2) g.target (controls_of g) (omega (arith, v.target_below)) (controls_inside max_lines g s.good max_lines)
    (restated text (at + 2) _ _ (append_assoc (number_text g.target) (controls_text (controls_of g)) (line_feed ∷ []))
    (later text at (103 ∷ tab ∷ []) _ s.stands))

pub line_length : (g : Gate) → length (gate_line g) ≡ 2 + length (number_text g.target) + length (controls_text (controls_of g)) + 1
line_length g =
    omega (arith, length-append (103 ∷ tab ∷ (number_text g.target ++ controls_text (controls_of g))) (line_feed ∷ []), length-append (number_text g.target) (controls_text (controls_of g)))

-- what was read of it
pub gate_there : (text : List ℕ) (at : ℕ) (g : Gate) → GateAt text at g → (k : Numeral) (r : GateRead)
    → ((t : ℕ) → NumberAt text (at + 2) t → k ≡ record { value = t; next = at + 2 + length (number_text t) })
    → ((cs : List Control) → ControlsAt text k.next cs → r ≡ record { gate = gate_of k.value cs; next = k.next + length (controls_text cs) + 1 })
    → r ≡ record { gate = g; next = at + length (gate_line g) }
gate_there text at g s k r number controls =
    let p = gate_parts text at g s in
    let e = number g.target p.number in
    let v : k.value ≡ g.target = ap (λ (x : Numeral). x.value) e in
    let q : k.next ≡ at + 2 + length (number_text g.target) = ap (λ (x : Numeral). x.next) e in
    let z : k.next + length (controls_text (controls_of g)) + 1 ≡ at + length (gate_line g) = omega (arith, line_length g) in
    controls (controls_of g) (subst (λ (x : ℕ). ControlsAt text x (controls_of g)) (sym q) p.controls)
    ∙ ap₂ (λ (x : Gate) (y : ℕ). record { gate = x; next = y }) (ap (λ (t : ℕ). gate_of t (controls_of g)) v ∙ gate_controls g s.good) z

-- ---- the lines of gates

pub first_gate : (text : List ℕ) (at : ℕ) (g : Gate) (gs : List Gate) → GatesAt text at (g ∷ gs) → (GateAt text at g) × (GatesAt text (at + length (gate_line g)) gs)
unfolding gate_lines all_valid
first_gate text at g gs s =
    let (a, b) = and_parts (valid max_lines g) (all_valid max_lines gs) s.good in (
      record { good = a; stands = front text at (gate_line g) (gate_lines gs) s.stands },
      record { good = b; stands = later text at (gate_line g) (gate_lines gs) s.stands },
    )

-- what the loop over the lines keeps: the words of the gates before `at` stand at the buffer's start, and the lines of the others stand there
pub record Filling (text : List ℕ) (gs : List Gate) (first : List ℕ) (at i : ℕ) (out : List ℕ) : Type 0 where
  pub passed : List Gate
  pub left : List Gate
  pub parts : passed ++ left ≡ gs
  pub count : length passed ≡ i
  pub here : GatesAt text at left
  pub put : out ≡ over (words_of passed) first

pub filling_start : (text : List ℕ) (gs : List Gate) (first : List ℕ) (at : ℕ) → GatesAt text at gs → Filling text gs first at 0 first
unfolding words_of
filling_start text gs first at s = record { passed = []; left = gs; parts = refl; count = refl; here = s; put = refl }

words_push : (gs : List Gate) (g : Gate) → words_of (gs ++ (g ∷ [])) ≡ words_of gs ++ gate_words g
unfolding words_of
words_push gs g = words_append gs (g ∷ [])

module _ (text : List ℕ) (gs : List Gate) (first : List ℕ) (at i : ℕ) (out : List ℕ) (f : Filling text gs first at i out) where
  -- one line more
  pub record NextLine : Type 0 where
    pub gate : Gate
    pub here : GateAt text at gate
    pub step : 3 * i + 3 ≤ length out → (next : ℕ) (h : Gate) → next ≡ at + length (gate_line gate) → h ≡ gate
        → (last : List ℕ) → last ≡ over (gate_words h) (take (length out - 3 * i) (drop (3 * i) out))
        → Filling text gs first next (i + 1) (put_mid (3 * i) (length out - 3 * i) out last)

  pub filling_next : i < length gs → NextLine
  filling_next more = go f.left refl
    where
      go : (l : List Gate) → f.left ≡ l → NextLine
      go [] e = absurd (omega (arith, f.count, ap length (sym (append-nil f.passed) ∙ ap (λ (l : List Gate). f.passed ++ l) (sym e) ∙ f.parts)))
      go (g ∷ hs) e =
          let (a, b) = first_gate text at g hs (subst (GatesAt text at) e f.here) in
          record {
            gate = g;
            here = a;
            step = λ room next h q w last l.
                record {
                  passed = f.passed ++ (g ∷ []);
                  left = hs;
                  parts = append_assoc f.passed (g ∷ []) hs ∙ ap (λ (l : List Gate). f.passed ++ l) (sym e) ∙ f.parts;
                  count = omega (arith, length-append f.passed (g ∷ []), f.count);
                  here = subst (λ (k : ℕ). GatesAt text k hs) (sym q) b;
                  put =
                      lent_over (words_of f.passed) (gate_words g) first out last (3 * i) f.put (omega (arith, words_length f.passed, f.count)) (omega arith)
                      (l ∙ ap (λ (x : Gate). over (gate_words x) (take (length out - 3 * i) (drop (3 * i) out))) w)
                      ∙ ap (λ (x : List ℕ). over x first) (sym (words_push f.passed g));
                };
          }
