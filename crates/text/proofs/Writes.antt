-- What a call writes: exactly where its text fits, and then all of it. Assumes nothing.
use mathlib.Core.Path.{◌≡◌, refl, sym, ap, ap₂, ◌∙◌}
use mathlib.Core.Bool.{Bool, true, false, ◌&&◌, false≢true}
use mathlib.Core.List.{List}
use Prim.Native.Nat.{ℕ, ◌≤◌}
use native.Mathlib.Omega.{arith}
use lib.ListN.{length, drop, length-append}
use Rattle.std.proofs.Common.{Result, Ok, Err}
use Rattle.bits.specs.Lists.{Put}
use Rattle.bits.proofs.Bools.{either}
use Rattle.circuit.specs.declared.refusal.Refusal.{Refusal}
use Rattle.circuit.specs.Outcome.{Outcome, served, refused, outcome_of, demand, written}
use Rattle.circuit.specs.Refusal.{no_room}
use Rattle.circuit.proofs.Promises.{never, unserved, demand_met, demand_failed, written_served, written_refused}
use Rattle.text.specs.Answers.{WritesWhere}

-- ---- exactly where a test holds

-- tests with the same refusal are one test
pub two_tests : {A : Type 0} (s t : Bool) (number place : ℕ) (more : Outcome A) → demand s number place (demand t number place more) ≡ demand (s && t) number place more
two_tests true t number place more = refl
two_tests false t number place more = refl

module _ (Fits : Type 0) (test : Bool) (yes : test ≡ true → Fits) (no : Fits → test ≡ true) (o : Outcome ℕ) (text out : List ℕ)
    (is : o ≡ demand test no_room 0 (served (length text))) where
  good : test ≡ true → o ≡ served (length text)
  good t = is ∙ demand_met test no_room 0 (served (length text)) t

  bad : test ≡ false → o ≡ refused no_room 0
  bad t = is ∙ demand_failed test no_room 0 (served (length text)) t

  unfit : test ≡ false → Fits → ⊥
  unfit t f = false≢true (sym t ∙ no f)

  refused_as : (number place : ℕ) → o ≡ refused number place → (Fits → ⊥) × (number ≡ no_room) × (place ≡ 0)
  refused_as number place e =
      either test
      (λ t. absurd (never (good t) e))
      (λ t.
      let q = sym e ∙ bad t in
      let x : number ≡ no_room = cc in
      let y : place ≡ 0 = cc in
      (unfit t, x, y))

  pub writes_where : WritesWhere Fits o text out (written o text out)
  writes_where =
      record {
        served_exactly = λ k. (
          (λ e. either test (λ t. (yes t, unserved (sym e ∙ good t))) (λ t. absurd (never e (bad t)))),
          (λ (f, s). good (no f) ∙ ap served (sym s)),
        );
        refused_exactly = λ number place. (
          refused_as number place,
          (λ (f, x, y). either test (λ t. absurd (f (yes t))) (λ t. bad t ∙ ap₂ refused (sym x) (sym y))),
        );
        leaves = λ k e. written_served text out o k e;
        untouched = written_refused text out o;
      }

-- ---- for the programs above

-- a served call wrote the text, whose length was told
pub served_put : (text out last : List ℕ) (o : Outcome ℕ) (size : ℕ) → o ≡ served (length text) → o ≡ served size → last ≡ written o text out → Put size last text out
served_put text out last o size e f b =
    let g : served size ≡ served (length text) = sym f ∙ e in
    record { count = cc; buffer = b ∙ written_served text out o size f }

-- and stands inside the buffer
pub put_inside : (r : ℕ) (last new first : List ℕ) → Put r last new first → r ≤ length last
put_inside r last new first p = omega (arith, p.count, ap length p.buffer, length-append new (drop (length new) first))

-- a call that was served gave its value
pub served_ok : {A : Type 0} (r : Result A Refusal) (a : A) → outcome_of r ≡ served a → r ≡ Ok a
served_ok (Ok b) a e = ap Ok (unserved e)
served_ok (Err why) a e = absurd (never e refl)
