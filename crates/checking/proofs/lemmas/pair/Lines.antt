-- The lines that count, and the clauses of the constants. Assumes nothing.
use Rattle.std.proofs.Common.{◌≡◌, ℕ, ◌<◌, Bool, true, false, cond, not, ◌↔◌, List, [], ◌∷◌, map, sym, refl, ap, ◌∙◌, subst, arith}
use mathlib.Core.Bool.{beq, or-false}
use Rattle.bits.specs.Digits.{bit, lines_in}
use Rattle.bits.specs.Lists.{All}
use Rattle.bits.proofs.Bools.{beq_true, beq_self, table₂, and_parts, both, either, refuted, cond-true, cond-false}
use Rattle.bits.proofs.Digits.{all_lines, line_all}
use Rattle.circuit.specs.declared.header.Header.{Header}
use Rattle.circuit.specs.Header.{marks_good, Permitted, LineCounts}
use Rattle.circuit.proofs.Promises.{marks_lines}
use Rattle.checking.specs.Clauses.{input_of, plus, minus, up_from}
use Rattle.checking.specs.Satisfaction.{holds, satisfies, spelled}
use Rattle.checking.specs.Pair.{constant_clause, constant_clauses, without_junk, counted_lines}
use Rattle.checking.proofs.lemmas.clauses.Tests.{holds_or}
use Rattle.checking.proofs.lemmas.clauses.Gates.{literal_value}
use Rattle.checking.proofs.lemmas.clauses.Forced.{Below, all_up_from, up_from_all, spelled_below, spelled_line}
use Rattle.checking.proofs.lemmas.pair_emission.Fits.{lines_below}

-- ---- a property of all lines that count is one of each

module _ (P : ℕ → Type 0) (junk : ℕ) where
  all_kept : (ks : List ℕ) → All (λ (k : ℕ). bit junk k ≡ false → P k) ks → All P (without_junk junk ks)
  unfolding without_junk
  all_kept [] a = tt
  all_kept (k ∷ ks) a =
      either (bit junk k)
      (λ t. subst (All P) (sym (cond-true (bit junk k) _ _ t)) (all_kept ks a.1))
      (λ t. subst (All P) (sym (cond-false (bit junk k) _ _ t)) (a.0 t, all_kept ks a.1))

  kept_all : (ks : List ℕ) → All P (without_junk junk ks) → All (λ (k : ℕ). bit junk k ≡ false → P k) ks
  unfolding without_junk
  kept_all [] a = tt
  kept_all (k ∷ ks) a =
      either (bit junk k)
      (λ t. ((λ e. absurd (refuted e t)), kept_all ks (subst (All P) (cond-true (bit junk k) _ _ t) a)))
      (λ t. let b = subst (All P) (cond-false (bit junk k) _ (k ∷ without_junk junk ks) t) a in ((λ e. b.0), kept_all ks b.1))

module _ (P : ℕ → Type 0) (h : Header) where
  pub all_counted : ((k : ℕ) → LineCounts h k → P k) → All P (counted_lines h)
  all_counted f = all_kept P h.junk (up_from 0 h.lines) (all_up_from _ 0 h.lines (λ k l b e. f k (record { below = omega arith; kept = e })))

  pub counted_all : All P (counted_lines h) → (k : ℕ) → LineCounts h k → P k
  counted_all a k c = up_from_all _ 0 h.lines (kept_all P h.junk (up_from 0 h.lines) a) k (omega arith) (omega (arith, c.below)) c.kept

-- ---- the constants' clauses hold exactly where the input honours the constants

module _ (h : Header) (σ : List Bool) where
  abbrev x : ℕ
  x = spelled h.lines σ

  constant_law : (k : ℕ) → k < h.lines → holds σ (constant_clause h k) ≡ beq (bit x k) (bit h.values k)
  constant_law k l =
      holds_or σ (cond (bit h.values k) (plus (input_of k)) (minus (input_of k)) ∷ [])
      ∙ or-false _
      ∙ literal_value σ (bit h.values k) (input_of k) (bit x k) (omega arith) (sym (spelled_line h.lines σ k l))
      ∙ signed (bit h.values k) (bit x k)
    where
      signed : (p b : Bool) → cond p b (not b) ≡ beq b p
      signed = table₂ _ _ refl

  constants_law : (ks : List ℕ) → Below h.lines ks → (satisfies σ (map (constant_clause h) ks) ≡ true) ↔ All (λ (k : ℕ). bit x k ≡ bit h.values k) ks
  unfolding satisfies
  constants_law [] w = ((λ e. tt), (λ a. refl))
  constants_law (k ∷ ks) w =
      let later = constants_law ks w.1 in
      let here = constant_law k w.0 in (
        (λ e.
            let (p, q) = and_parts (holds σ (constant_clause h k)) (satisfies σ (map (constant_clause h) ks)) e in
            (beq_true _ _ (sym here ∙ p), later.0 q)),
        (λ a. both (here ∙ ap (λ (b : Bool). beq b (bit h.values k)) a.0 ∙ beq_self (bit h.values k)) (later.1 a.1)),
      )

  pub permitted_law : marks_good h ≡ true → (satisfies σ (constant_clauses h) ≡ true) ↔ Permitted h x
  permitted_law good =
      let m = marks_lines h good in
      let law = constants_law (lines_in h.constants h.lines) (lines_below h.constants h.lines h.lines (omega arith)) in (
        (λ e.
            record {
              state = spelled_below h.lines σ;
              constants = λ k c. line_all (λ (k : ℕ). bit x k ≡ bit h.values k) h.constants h.lines (law.0 e) k (m.constants_below k c) c;
            }),
        (λ p. law.1 (all_lines _ h.constants h.lines (λ k l c. p.constants k c))),
      )
