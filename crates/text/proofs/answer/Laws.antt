-- A text that is written where it fits, and how long the texts of answers are. Assumes nothing.
use mathlib.Core.Path.{◌≡◌, refl, sym, ap, ap₂, ◌∙◌}
use mathlib.Core.List.{List, [], ◌∷◌, ◌++◌}
use Prim.Native.Nat.{ℕ, ◌+◌, ◌^◌, ◌≤◌, ◌<◌}
use native.Mathlib.Omega.{arith}
use lib.ListN.{length, length-append}
use borrow.Author.Tests.{le-leb, lt-leb}
use Rattle.bits.specs.Lists.{Put}
use Rattle.circuit.specs.Outcome.{Outcome, served, refused, written, Yields}
use Rattle.circuit.specs.Refusal.{no_room}
use Rattle.circuit.specs.Text.{tab, line_feed}
use Rattle.circuit.proofs.Promises.{demand_met, demand_failed, told}
use Rattle.text.specs.Dimacs.{blank, decimal, header_text}
use Rattle.text.specs.FileOutcome.{refused_word, numbers_text, refusal_text}
use Rattle.text.specs.Answers.{fit_outcome, fit_buffer}
use Rattle.text.specs.Compare.{differ_word, differ_text}
use Rattle.text.proofs.Decimal.{decimal_few}

-- ---- where it fits

pub fit_fits : (text : List ℕ) (room : ℕ) → length text ≤ room → fit_outcome text room ≡ served (length text)
unfolding fit_outcome
fit_fits text room h = demand_met _ _ _ _ (le-leb (length text) room h)

fit_short : (text : List ℕ) (room : ℕ) → room < length text → fit_outcome text room ≡ refused no_room 0
unfolding fit_outcome
fit_short text room h = demand_failed _ _ _ _ (lt-leb (length text) room h)

module _ (text out : List ℕ) where
  pub fit_refused : length out < length text → Yields (refused no_room 0) out (fit_outcome text (length out)) (fit_buffer text out)
  unfolding fit_buffer
  fit_refused h = told text out _ out (fit_outcome text (length out)) (refused no_room 0) refl (fit_short text (length out) h) refl

  pub fit_put : (k : ℕ) (last : List ℕ) → Put k last text out → length text ≤ length out → Yields (served k) last (fit_outcome text (length out)) (fit_buffer text out)
  unfolding fit_buffer
  fit_put k last p h = told text out _ last (fit_outcome text (length out)) (served (length text)) (ap served p.count) (fit_fits text (length out) h) p.buffer

-- and of a call that writes it where its rooms are long enough
pub fit_told : (text due out : List ℕ) (outcome r : Outcome ℕ) (last : List ℕ) → text ≡ due → outcome ≡ fit_outcome due (length out)
    → Yields r last (fit_outcome text (length out)) (fit_buffer text out) → Yields r last outcome (written outcome due out)
unfolding fit_buffer
fit_told text due out outcome r last e o y =
    let g : fit_outcome text (length out) ≡ outcome = ap (λ (t : List ℕ). fit_outcome t (length out)) e ∙ sym o in
    record { answer = y.answer ∙ g; buffer = y.buffer ∙ ap₂ (λ (x : Outcome ℕ) (t : List ℕ). written x t out) g e }

-- ---- how long

pub digits_few : (k : ℕ) → k < 2 ^ 64 → length (decimal k) ≤ 20
digits_few k h = decimal_few 19 k (omega arith)

pub three_long : (word : List ℕ) (a b c : ℕ) → length (word ++ numbers_text a b c) ≡ length word + length (decimal a) + length (decimal b) + length (decimal c) + 3
three_long word a b c =
    omega (arith, length-append word (numbers_text a b c), length-append (decimal a) (tab ∷ (decimal b ++ (tab ∷ (decimal c ++ (line_feed ∷ []))))), length-append (decimal b) (tab ∷ (decimal c ++ (line_feed ∷ []))), length-append (decimal c) (line_feed ∷ []))

pub differ_long : (a b c : ℕ) → length (differ_text a b c) ≡ length (decimal a) + length (decimal b) + length (decimal c) + 10
unfolding differ_text
differ_long a b c = omega (arith, three_long (differ_word ++ (tab ∷ [])) a b c)

pub refusal_long : (a b c : ℕ) → length (refusal_text a b c) ≡ length (decimal a) + length (decimal b) + length (decimal c) + 11
unfolding refusal_text
refusal_long a b c = omega (arith, three_long (refused_word ++ (tab ∷ [])) a b c)

pub refusal_few : (number file place : ℕ) → number < 100 → file < 10 → place < 100000 → length (refusal_text number file place) ≤ 19
refusal_few number file place a b c =
    omega (arith, refusal_long number file place, decimal_few 1 number a, decimal_few 0 file b, decimal_few 4 place c)

one_long : length (decimal 0) ≡ 1
one_long = ap length (Rattle.text.proofs.Decimal.decimal_short 0 (omega arith))

pub header_long : (v m : ℕ) → length (header_text v m) ≡ length (decimal v) + length (decimal m) + length (decimal 0) + 7
unfolding header_text
header_long v m = omega (arith, one_long, length-append (decimal v) (blank ∷ (decimal m ++ (line_feed ∷ []))), length-append (decimal m) (line_feed ∷ []))
