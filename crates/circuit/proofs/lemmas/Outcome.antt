-- The laws of outcomes: a test that holds or fails, a call that goes on, and what a call that writes a buffer owes. Assumes nothing.
use Rattle.std.proofs.Common.{◌≡◌, ℕ, ◌<◌, ◌≤◌, Bool, true, false, eqb, ltb, leb, ◌↔◌, List, sym, refl, ap, ◌∙◌, ap₂, subst₂, arith, ltb-false, le-ltb, ne_eqb, leb-false}
use borrow.Author.Tests.{eqb-false, lt-leb}
use Rattle.bits.specs.Lists.{over}
use Rattle.bits.proofs.Bools.{either, cond-true, cond-false}
use Rattle.circuit.specs.Outcome.{Outcome, served, refused, demand, and_then, Wrong, before, then, Fails, fails, written, Untouched, Yields}

-- an outcome is served or refused, and not both
pub never : {A : Type 0} {o : Outcome A} {a : A} {number place : ℕ} → o ≡ served a → o ≡ refused number place → ⊥
never p q = let z : ◌≡◌ {A = ℕ} 0 1 = cc in omega arith

pub unserved : {A : Type 0} {a b : A} → ◌≡◌ {A = Outcome A} (served a) (served b) → a ≡ b
unserved e = cc

module _ {A : Type 0} (test : Bool) (number place : ℕ) (more : Outcome A) where
  pub demand_met : test ≡ true → demand test number place more ≡ more
  demand_met e = cond-true test more (refused number place) e

  pub demand_failed : test ≡ false → demand test number place more ≡ refused number place
  demand_failed e = cond-false test more (refused number place) e

  -- what a served call tells of its test
  pub demanded : (a : A) → demand test number place more ≡ served a → (test ≡ true) × (more ≡ served a)
  demanded a e =
      either test (λ t. (t, sym (demand_met t) ∙ e)) (λ t. absurd (never e (demand_failed t)))

module _ {A B : Type 0} (first : Outcome A) (more : A → Outcome B) where
  pub then_served : (a : A) → first ≡ served a → and_then first more ≡ more a
  then_served a e = ap (λ (o : Outcome A). and_then o more) e

  pub then_refused : (number place : ℕ) → first ≡ refused number place → and_then first more ≡ refused number place
  then_refused number place e = ap (λ (o : Outcome A). and_then o more) e

-- a call that is served in the end was served before
pub then_both : {A B : Type 0} (first : Outcome A) (more : A → Outcome B) (b : B) → and_then first more ≡ served b
    → (a : A) × (first ≡ served a) × (more a ≡ served b)
then_both (served a) more b e = (a, refl, e)
then_both (refused number place) more b e = absurd (never refl (sym e))

-- where nothing after it refuses, a refusal is the first call's
pub then_fails : {A B : Type 0} (first : Outcome A) (value : A → B) (number place : ℕ) → and_then first (λ a. served (value a)) ≡ refused number place
    → first ≡ refused number place
then_fails (served a) value number place e = absurd (never refl e)
then_fails (refused x y) value number place e = let p : x ≡ number = cc in let q : y ≡ place = cc in ap₂ refused p q

-- what a refused call tells
module _ (F : ℕ → ℕ → Type 0) where
  pub same_refusal : {A : Type 0} {u v x y : ℕ} → ◌≡◌ {A = Outcome A} (refused u v) (refused x y) → F u v → F x y
  same_refusal {A} {u} {v} {x} {y} e w = let p : u ≡ x = cc in let q : v ≡ y = cc in subst₂ F p q w

  -- it was refused before, or went on and was refused then
  pub then_either : {A B : Type 0} (first : Outcome A) (more : A → Outcome B)
      → ((x y : ℕ) → first ≡ refused x y → F x y)
      → ((a : A) → first ≡ served a → (x y : ℕ) → more a ≡ refused x y → F x y)
      → (x y : ℕ) → and_then first more ≡ refused x y → F x y
  then_either (served a) more p q x y e = q a refl x y e
  then_either (refused u v) more p q x y e = same_refusal e (p u v refl)

  -- its last test failed
  pub last_failed : {A : Type 0} (test : Bool) (number place : ℕ) (value : A) → (test ≡ false → F number place)
      → (x y : ℕ) → demand test number place (served value) ≡ refused x y → F x y
  last_failed true number place value p x y e = absurd (never refl e)
  last_failed false number place value p x y e = same_refusal e (p refl)

-- a call that goes on after a first one is refused exactly by what is wrong before, or then
module _ {A B : Type 0} (first : Outcome A) (more : A → Outcome B) (Before : ℕ → ℕ → Type 0) (Good : A → Type 0) (Then : A → ℕ → ℕ → Type 0)
    (refusals : (x y : ℕ) → (first ≡ refused x y) ↔ Before x y) (values : (a : A) → (first ≡ served a) ↔ Good a)
    (later : (a : A) → Good a → (x y : ℕ) → (more a ≡ refused x y) ↔ Then a x y) where
  pub wrong_refused : (x y : ℕ) → (and_then first more ≡ refused x y) ↔ Wrong Before Good Then x y
  wrong_refused x y = (told_wrong, wrong_told)
    where
      told_wrong : and_then first more ≡ refused x y → Wrong Before Good Then x y
      told_wrong =
          then_either (Wrong Before Good Then) first more (λ u v p. before ((refusals u v).0 p))
          (λ a p u v q. let g = (values a).0 p in then a g ((later a g u v).0 q)) x y

      wrong_told : Wrong Before Good Then x y → and_then first more ≡ refused x y
      wrong_told (before w) = then_refused first more x y ((refusals x y).1 w)
      wrong_told (then a g w) = then_served first more a ((values a).1 g) ∙ (later a g x y).1 w

-- a last test is refused exactly where it fails
pub fails_refused : {A : Type 0} (test : Bool) (number place : ℕ) (value : A) (Bad : Type 0) → (test ≡ false) ↔ Bad
    → (x y : ℕ) → (demand test number place (served value) ≡ refused x y) ↔ Fails Bad number place x y
fails_refused test number place value Bad is x y = (
  last_failed (Fails Bad number place) test number place value (λ t. fails (is.0 t)) x y,
  back x y,
)
  where
    back : (x y : ℕ) → Fails Bad number place x y → demand test number place (served value) ≡ refused x y
    back _ _ (fails b) = demand_failed test number place (served value) (is.1 b)

-- a call that goes on without a test is refused as the first one is
pub same_refused : {A B : Type 0} (first : Outcome A) (value : A → B) (F : ℕ → ℕ → Type 0) → ((x y : ℕ) → (first ≡ refused x y) ↔ F x y)
    → (x y : ℕ) → (and_then first (λ a. served (value a)) ≡ refused x y) ↔ F x y
same_refused first value F is x y = ((λ e. (is x y).0 (then_fails first value x y e)), (λ f. then_refused first _ x y ((is x y).1 f)))

-- what the usual tests say where they fail
pub at_least : (x y : ℕ) → (ltb x y ≡ false) ↔ (y ≤ x)
at_least x y = (ltb-false x y, le-ltb x y)

pub above : (x y : ℕ) → (leb x y ≡ false) ↔ (y < x)
above x y = (leb-false x y, lt-leb x y)

pub unequal : (x y : ℕ) → (eqb x y ≡ false) ↔ (x ≡ y → ⊥)
unequal x y = (eqb-false x y, ne_eqb x y)

-- the buffer of a served call, and of a refused one
pub written_served : {A B : Type 0} (front out : List B) (o : Outcome A) (a : A) → o ≡ served a → written o front out ≡ over front out
written_served front out o a e = ap (λ (x : Outcome _). written x front out) e

pub written_refused : {A B : Type 0} (front out : List B) (o : Outcome A) → Untouched o out (written o front out)
written_refused front out o number place e = ap (λ (x : Outcome _). written x front out) e

-- a call owes this where its outcome and the buffer that goes with it are known
pub told : {A B : Type 0} (front out : List B) (r : Outcome A) (last : List B) (outcome o : Outcome A) → r ≡ o → outcome ≡ o → last ≡ written o front out
    → Yields r last outcome (written outcome front out)
told front out r last outcome o e f l = record { answer = e ∙ sym f; buffer = l ∙ sym (ap (λ (x : Outcome _). written x front out) f) }
