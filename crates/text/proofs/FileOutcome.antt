-- The laws of what is answered to two files. Assumes nothing.
use mathlib.Core.Path.{◌≡◌, refl, sym, ap, ap₂, subst}
use mathlib.Core.Bool.{Bool, true, false}
use Prim.Native.Nat.{ℕ}
use native.Mathlib.Omega.{arith}
use Rattle.bits.proofs.Bools.{cond-true, cond-false}
use Rattle.circuit.specs.Outcome.{Outcome, served, refused}
use Rattle.text.specs.FileOutcome.{FileOutcome, answered, refused_at, of_both, of_that, of_file}

-- an outcome is a value or a refusal, and not both
pub not_refused : {A : Type 0} {a : A} {number file place : ℕ} → refused_at number file place ≡ answered a → ⊥
not_refused e = let z : ◌≡◌ {A = ℕ} 0 1 = cc in omega arith

pub unanswered : {A : Type 0} {a b : A} → ◌≡◌ {A = FileOutcome A} (answered a) (answered b) → a ≡ b
unanswered e = cc

-- what is said of the same refusal
pub same_at : {A : Type 0} (F : ℕ → ℕ → ℕ → Type 0) {u v w x y z : ℕ} → ◌≡◌ {A = FileOutcome A} (refused_at u v w) (refused_at x y z) → F u v w → F x y z
same_at {A} F {u} {v} {w} {x} {y} {z} e f =
    let p : u ≡ x = cc in
    let q : v ≡ y = cc in
    let r : w ≡ z = cc in
    subst (F x y) r (subst (λ (k : ℕ). F x k w) q (subst (λ (k : ℕ). F k v w) p f))

-- a test
module _ {A : Type 0} (file : ℕ) (test : Bool) (number : ℕ) (more : FileOutcome A) where
  pub that_met : test ≡ true → of_that file test number more ≡ more
  that_met e = cond-true test more (refused_at number file 0) e

  pub that_failed : test ≡ false → of_that file test number more ≡ refused_at number file 0
  that_failed e = cond-false test more (refused_at number file 0) e

module _ {A : Type 0} (test : Bool) (number : ℕ) (more : FileOutcome A) where
  pub both_met : test ≡ true → of_both test number more ≡ more
  both_met = that_met 0 test number more

  pub both_failed : test ≡ false → of_both test number more ≡ refused_at number 0 0
  both_failed = that_failed 0 test number more

pub both_passed : {A : Type 0} (test : Bool) (number : ℕ) (more : FileOutcome A) (a : A) → of_both test number more ≡ answered a → (test ≡ true) × (more ≡ answered a)
both_passed true number more a e = (refl, e)
both_passed false number more a e = absurd (not_refused e)

-- a file
module _ {A B : Type 0} (file : ℕ) (o : Outcome A) (more : A → FileOutcome B) where
  pub file_served : (a : A) → o ≡ served a → of_file file o more ≡ more a
  file_served a e = ap (λ (x : Outcome A). of_file file x more) e

  pub file_refused : (number place : ℕ) → o ≡ refused number place → of_file file o more ≡ refused_at number file place
  file_refused number place e = ap (λ (x : Outcome A). of_file file x more) e

pub file_passed : {A B : Type 0} (file : ℕ) (o : Outcome A) (more : A → FileOutcome B) (b : B) → of_file file o more ≡ answered b
    → (a : A) × (o ≡ served a) × (more a ≡ answered b)
file_passed file (served a) more b e = (a, refl, e)
file_passed file (refused number place) more b e = absurd (not_refused e)

-- what is said of a file as it is
pub said : {A : Type 0} (file : ℕ) (o : Outcome A) (a : A) → answered a ≡ of_file file o answered → o ≡ served a
said file (served b) a e = ap served (sym (unanswered e))
said file (refused number place) a e = absurd (not_refused (sym e))

pub said_wrong : {A : Type 0} (file : ℕ) (o : Outcome A) (number f place : ℕ) → refused_at number f place ≡ of_file file o answered → (f ≡ file) × (o ≡ refused number place)
said_wrong file (served b) number f place e = absurd (not_refused e)
said_wrong file (refused m q) number f place e =
    let x : number ≡ m = cc in
    let y : f ≡ file = cc in
    let z : place ≡ q = cc in
    (y, ap₂ refused (sym x) (sym z))
