-- The laws of two gates by lines: what one does after the other, and that a match keeps the function and validity. Assumes nothing.
use Rattle.std.proofs.Common.{◌≡◌, ℕ, Bool, true, false, not, ◌&&◌, eqb, [], sym, refl, ap, ◌∙◌, subst, ap₂, ne_eqb}
use mathlib.Core.Bool.{xor}
use Rattle.bits.specs.Digits.{bit}
use Rattle.bits.proofs.Bools.{same_test, refuted, table₂, table₄}
use Rattle.bits.proofs.Digits.{bits_equal}
use Rattle.circuit.specs.declared.gate.Gate.{Gate}
use Rattle.circuit.specs.Gate.{max_lines, fires, valid, apply}
use Rattle.circuit.specs.Words.{all_valid}
use Rattle.circuit.specs.Run.{run}
use Rattle.circuit.proofs.Promises.{fires_lines, lines_fires, valid_by_lines, apply_bit, apply_twice, valid_none, valid_both, run_none, run_one}
use Rattle.checking.specs.Match.{Match, remaining}
use Rattle.checking.specs.StepLaws.{Uncontrolled, OneMore, Matches, pair, drop, turn_first, turn_second}
use Rattle.checking.proofs.lemmas.step.OneMore.{meets, meets_not, more_valid, more_fires, less_valid, more_below, more_aside}

-- ---- two gates, one after the other

xor_off : (x f : Bool) → xor x (f && false) ≡ x
unfolding xor
xor_off = table₂ _ _ refl

-- a gate keeps every line but its target
pub elsewhere : (g : Gate) → valid max_lines g ≡ true → (s l : ℕ) → (l ≡ g.target → ⊥) → bit (apply g s) l ≡ bit s l
elsewhere g vg s l d = apply_bit g s l vg ∙ ap (λ (e : Bool). xor (bit s l) (fires g s && e)) (ne_eqb l g.target d) ∙ xor_off (bit s l) (fires g s)

module _ (g h : Gate) (vg : valid max_lines g ≡ true) (clear : Uncontrolled h g.target) (s : ℕ) where
  -- the second fires as it would without the first
  pub fires_past : fires h (apply g s) ≡ fires h s
  fires_past =
      let on : (l : ℕ) → bit h.positive l ≡ true → bit (apply g s) l ≡ bit s l =
      λ l e. elsewhere g vg s l (λ q. refuted clear.not_positive (sym (ap (bit h.positive) q) ∙ e)) in
      let off : (l : ℕ) → bit h.negative l ≡ true → bit (apply g s) l ≡ bit s l =
      λ l e. elsewhere g vg s l (λ q. refuted clear.not_negative (sym (ap (bit h.negative) q) ∙ e)) in
      same_test (fires h (apply g s)) (fires h s)
      (λ f. let w = fires_lines h (apply g s) f in lines_fires h s (record { on = λ l e. sym (on l e) ∙ w.on l e; off = λ l e. sym (off l e) ∙ w.off l e }))
      (λ f. let w = fires_lines h s f in lines_fires h (apply g s) (record { on = λ l e. on l e ∙ w.on l e; off = λ l e. off l e ∙ w.off l e }))

  pub two_bit : valid max_lines h ≡ true → (l : ℕ)
      → bit (apply h (apply g s)) l ≡ xor (xor (bit s l) (fires g s && eqb l g.target)) (fires h s && eqb l h.target)
  two_bit vh l =
      apply_bit h (apply g s) l vh
      ∙ ap₂ (λ (x f : Bool). xor x (f && eqb l h.target)) (apply_bit g s l vg) fires_past

-- ---- a match keeps the function and validity

pub own_clear : (g : Gate) → valid max_lines g ≡ true → Uncontrolled g g.target
own_clear g v = let w = valid_by_lines max_lines g v in record { not_positive = w.target_not_positive; not_negative = w.target_not_negative }

both_lines : (x f e t : Bool) → xor (xor x (f && t)) (e && t) ≡ xor x (xor f e && t)
unfolding xor
both_lines = table₄ _ _ refl

-- two gates with one target do what a third with that target does, where it fires as exactly one of them does
merged : (g h r : Gate) → valid max_lines g ≡ true → valid max_lines h ≡ true → valid max_lines r ≡ true → g.target ≡ h.target → r.target ≡ h.target
    → (s : ℕ) → xor (fires g s) (fires h s) ≡ fires r s → apply h (apply g s) ≡ apply r s
merged g h r vg vh vr same here s f =
    bits_equal _ _ (λ l.
    two_bit g h vg (subst (Uncontrolled h) (sym same) (own_clear h vh)) s vh l
    ∙ ap (λ (t : ℕ). xor (xor (bit s l) (fires g s && eqb l t)) (fires h s && eqb l h.target)) same
    ∙ both_lines (bit s l) (fires g s) (fires h s) (eqb l h.target)
    ∙ ap₂ (λ (x : Bool) (t : ℕ). xor (bit s l) (x && eqb l t)) f (sym here)
    ∙ sym (apply_bit r s l vr))

dropped : (f m : Bool) → xor (f && m) (f && not m) ≡ f
unfolding xor
dropped = table₂ _ _ refl

turned : (f m : Bool) → xor (f && m) f ≡ (f && not m)
unfolding xor
turned = table₂ _ _ refl

turned_back : (f m : Bool) → xor f (f && m) ≡ (f && not m)
unfolding xor
turned_back = table₂ _ _ refl

-- the gates that remain are valid on every n on which the two are
pub match_valid : (n : ℕ) (g h : Gate) (m : Match) → Matches g h m → valid n g ≡ true → valid n h ≡ true → all_valid n (remaining m) ≡ true
match_valid n g h _ (pair t p q) vg vh = valid_none n
match_valid n g h _ (drop r k b o u) vg vh = valid_both n r [] (less_valid g r k b o n vg) (valid_none n)
match_valid n g h _ (turn_first r k b o u) vg vh =
    valid_both n r [] (more_valid r h k (not b) u n vh (more_below g h k b o n vg) (more_aside g h k b o n vg)) (valid_none n)
match_valid n g h _ (turn_second r k b o u) vg vh =
    valid_both n r [] (more_valid r g k (not b) u n vg (more_below h g k b o n vh) (more_aside h g k b o n vh)) (valid_none n)

-- and do on every state what the two did
module _ (g h : Gate) (vg : valid max_lines g ≡ true) (vh : valid max_lines h ≡ true) (s : ℕ) where
  more_not : (r less : Gate) (k : ℕ) (b : Bool) → OneMore r less k (not b) → fires r s ≡ (fires less s && not (meets b (bit s k)))
  more_not r less k b o = more_fires r less k (not b) o s ∙ ap (λ (x : Bool). fires less s && x) (meets_not b (bit s k))

  pub match_run : (m : Match) → Matches g h m → run (remaining m) s ≡ apply h (apply g s)
  match_run _ (pair t p q) = run_none s ∙ sym (ap (λ (f : Gate). apply h (apply f s)) (same_gate g h t p q) ∙ apply_twice h s)
    where
      same_gate : (g h : Gate) → g.target ≡ h.target → g.positive ≡ h.positive → g.negative ≡ h.negative → g ≡ h
      same_gate g h t p q =
          ap₂ (λ (x y : ℕ). record { positive = x; negative = y; target = g.target }) p q
          ∙ ap (λ (x : ℕ). record { positive = h.positive; negative = h.negative; target = x }) t
  match_run _ (drop r k b o u) =
      run_one r s
      ∙ sym (merged g h r vg vh (less_valid g r k b o max_lines vg) (o.target ∙ sym u.target) (sym u.target) s
      (ap₂ xor (more_fires g r k b o s) (more_not h r k b u) ∙ dropped (fires r s) (meets b (bit s k))))
  match_run _ (turn_first r k b o u) =
      run_one r s
      ∙ sym (merged g h r vg vh (more_valid r h k (not b) u max_lines vh (more_below g h k b o max_lines vg) (more_aside g h k b o max_lines vg)) o.target u.target s
      (ap (λ (x : Bool). xor x (fires h s)) (more_fires g h k b o s) ∙ turned (fires h s) (meets b (bit s k)) ∙ sym (more_not r h k b u)))
  match_run _ (turn_second r k b o u) =
      run_one r s
      ∙ sym (merged g h r vg vh (more_valid r g k (not b) u max_lines vg (more_below h g k b o max_lines vh) (more_aside h g k b o max_lines vh)) (sym o.target) (u.target ∙ sym o.target) s
      (ap (xor (fires g s)) (more_fires h g k b o s) ∙ turned_back (fires g s) (meets b (bit s k)) ∙ sym (more_not r g k b u)))
