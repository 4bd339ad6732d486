-- The laws of a gate with one control more than another, by lines: where it fires, and that both are valid. Assumes nothing.
use Rattle.std.proofs.Common.{◌≡◌, ℕ, ◌<◌, ◌≤◌, Bool, true, false, not, ◌&&◌, eqb, ltb, sym, refl, ap, ◌∙◌, subst, arith, ltb-false, ltb-true, eqb-true}
use mathlib.Core.Bool.{false≢true}
use borrow.Author.Tests.{eqb-false}
use Rattle.bits.specs.Digits.{bit}
use Rattle.bits.proofs.Bools.{and_parts, both, either, same_test, refuted, table₂}
use Rattle.circuit.specs.declared.gate.Gate.{Gate}
use Rattle.circuit.specs.Gate.{fires, valid}
use Rattle.circuit.proofs.Promises.{fires_lines, lines_fires, valid_by_lines, lines_valid}
use Rattle.checking.specs.StepLaws.{OneMore}

-- what holds on line k and on every other line
pub at_line : (P : ℕ → Type 0) (k : ℕ) → P k → ((l : ℕ) → (l ≡ k → ⊥) → P l) → (l : ℕ) → P l
at_line P k here there l = either (eqb l k) (λ t. subst P (sym (eqb-true l k t)) here) (λ t. there l (eqb-false l k t))

-- ---- a gate with one control more fires where the other one does and that control is met

abbrev pub meets : Bool → Bool → Bool
meets true x = x
meets false x = not x

pub meets_not : (b x : Bool) → meets (not b) x ≡ not (meets b x)
meets_not = table₂ _ _ refl

met_true : (b x : Bool) → (b ≡ true → x ≡ true) → (not b ≡ true → x ≡ false) → meets b x ≡ true
met_true true x f g = f refl
met_true false x f g = ap not (g refl)

met_on : (b x : Bool) → meets b x ≡ true → b ≡ true → x ≡ true
met_on true x m e = m
met_on false x m e = absurd (false≢true e)

met_off : (b x : Bool) → meets b x ≡ true → not b ≡ true → x ≡ false
met_off true x m e = absurd (false≢true e)
met_off false true m e = absurd (false≢true m)
met_off false false m e = refl

module _ (g less : Gate) (k : ℕ) (b : Bool) (o : OneMore g less k b) where
  pub more_fires : (s : ℕ) → fires g s ≡ (fires less s && meets b (bit s k))
  more_fires s =
      same_test (fires g s) (fires less s && meets b (bit s k))
      (λ f.
      let l = fires_lines g s f in
      both
      (lines_fires less s
      (record {
        on = at_line (λ (x : ℕ). bit less.positive x ≡ true → bit s x ≡ true) k (λ e. absurd (refuted o.none_positive e)) (λ x n e. l.on x (o.others_positive x n ∙ e));
        off = at_line (λ (x : ℕ). bit less.negative x ≡ true → bit s x ≡ false) k (λ e. absurd (refuted o.none_negative e)) (λ x n e. l.off x (o.others_negative x n ∙ e));
      }))
      (met_true b (bit s k) (λ e. l.on k (o.on ∙ e)) (λ e. l.off k (o.off ∙ e))))
      (λ f.
      let (a, m) = and_parts (fires less s) (meets b (bit s k)) f in
      let l = fires_lines less s a in
      lines_fires g s
      (record {
        on = at_line (λ (x : ℕ). bit g.positive x ≡ true → bit s x ≡ true) k (λ e. met_on b (bit s k) m (sym o.on ∙ e)) (λ x n e. l.on x (sym (o.others_positive x n) ∙ e));
        off = at_line (λ (x : ℕ). bit g.negative x ≡ true → bit s x ≡ false) k (λ e. met_off b (bit s k) m (sym o.off ∙ e)) (λ x n e. l.off x (sym (o.others_negative x n) ∙ e));
      }))

  -- the shorter one is valid where the longer one is
  pub less_valid : (n : ℕ) → valid n g ≡ true → valid n less ≡ true
  less_valid n v =
      let w = valid_by_lines n g v in
      let same = o.target in
      lines_valid n less
      (record {
        target_below = omega (arith, w.target_below);
        positive_below = at_line (λ (x : ℕ). n ≤ x → bit less.positive x ≡ false) k (λ h. o.none_positive) (λ x d h. sym (o.others_positive x d) ∙ w.positive_below x h);
        negative_below = at_line (λ (x : ℕ). n ≤ x → bit less.negative x ≡ false) k (λ h. o.none_negative) (λ x d h. sym (o.others_negative x d) ∙ w.negative_below x h);
        apart = at_line (λ (x : ℕ). bit less.positive x ≡ true → bit less.negative x ≡ false) k (λ h. o.none_negative)
            (λ x d h. sym (o.others_negative x d) ∙ w.apart x (o.others_positive x d ∙ h));
        target_not_positive = at_line (λ (x : ℕ). x ≡ g.target → bit less.positive x ≡ false) k (λ h. o.none_positive)
            (λ x d h. sym (o.others_positive x d) ∙ ap (bit g.positive) h ∙ w.target_not_positive) less.target (sym same);
        target_not_negative = at_line (λ (x : ℕ). x ≡ g.target → bit less.negative x ≡ false) k (λ h. o.none_negative)
            (λ x d h. sym (o.others_negative x d) ∙ ap (bit g.negative) h ∙ w.target_not_negative) less.target (sym same);
      })

  -- the one control more stands on a line below n that is not the target
  one_of : (b : Bool) → b ≡ false → not b ≡ false → ⊥
  one_of b e f = refuted f (ap not e)

  pub more_below : (n : ℕ) → valid n g ≡ true → k < n
  more_below n v =
      let w = valid_by_lines n g v in
      either (ltb k n) (λ t. ltb-true k n t)
      (λ t. let h = ltb-false k n t in absurd (one_of b (sym o.on ∙ w.positive_below k h) (sym o.off ∙ w.negative_below k h)))

  pub more_aside : (n : ℕ) → valid n g ≡ true → less.target ≡ k → ⊥
  more_aside n v e =
      let w = valid_by_lines n g v in
      let t : k ≡ g.target = sym (o.target ∙ e) in
      one_of b (sym o.on ∙ ap (bit g.positive) t ∙ w.target_not_positive) (sym o.off ∙ ap (bit g.negative) t ∙ w.target_not_negative)

-- a control more on such a line keeps validity
pub more_valid : (r less : Gate) (k : ℕ) (b : Bool) → OneMore r less k b → (n : ℕ) → valid n less ≡ true → k < n → (less.target ≡ k → ⊥) → valid n r ≡ true
more_valid r less k b o n v below aside =
    let w = valid_by_lines n less v in
    let same = o.target in
    lines_valid n r
    (record {
      target_below = omega (arith, w.target_below);
      positive_below = at_line (λ (x : ℕ). n ≤ x → bit r.positive x ≡ false) k (λ h. absurd (omega arith)) (λ x d h. o.others_positive x d ∙ w.positive_below x h);
      negative_below = at_line (λ (x : ℕ). n ≤ x → bit r.negative x ≡ false) k (λ h. absurd (omega arith)) (λ x d h. o.others_negative x d ∙ w.negative_below x h);
      apart = at_line (λ (x : ℕ). bit r.positive x ≡ true → bit r.negative x ≡ false) k (λ h. o.off ∙ ap not (sym o.on ∙ h))
          (λ x d h. o.others_negative x d ∙ w.apart x (sym (o.others_positive x d) ∙ h));
      target_not_positive = o.others_positive r.target (λ e. aside (sym same ∙ e)) ∙ ap (bit less.positive) same ∙ w.target_not_positive;
      target_not_negative = o.others_negative r.target (λ e. aside (sym same ∙ e)) ∙ ap (bit less.negative) same ∙ w.target_not_negative;
    })
