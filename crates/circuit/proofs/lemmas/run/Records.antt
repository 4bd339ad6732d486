-- The laws of a run over gate records: gate by gate it has the outcome of the rules, which is that of a run on the gates' words. Assumes nothing.
use Rattle.std.proofs.Common.{◌≡◌, ℕ, ◌/◌, ◌%◌, ◌^◌, ◌<◌, ◌≤◌, ltb, leb, List, length, sym, ap, ◌∙◌, subst, arith, leb-false, leb-true}
use Rattle.bits.proofs.Bools.{either}
use Rattle.circuit.specs.declared.gate.Gate.{Gate}
use Rattle.circuit.specs.Gate.{max_gates}
use Rattle.circuit.specs.Outcome.{Outcome, served, refused, demand, and_then}
use Rattle.circuit.specs.Refusal.{bad_state, too_many_gates}
use Rattle.circuit.specs.Words.{gates_of, words_of, line_count_good, valid_from, Cascade}
use Rattle.circuit.specs.Run.{run, run_outcome, records_outcome}
use Rattle.circuit.specs.Laws.{RunRefused}
use Rattle.circuit.proofs.lemmas.Outcome.{demand_met, demand_failed}
use Rattle.circuit.proofs.lemmas.words.Gates.{words_length, gates_words}
use Rattle.circuit.proofs.lemmas.words.Tests.{size_good, size_many, gates_sized, check_gates, cascade_count}
use Rattle.circuit.proofs.lemmas.run.Laws.{run_lines, run_size, run_served, served_run, run_refused}

-- ---- the gates' words

-- a run over records is the run on their words
pub records_words : (n : ℕ) (gs : List Gate) (s : ℕ) → records_outcome n gs s ≡ run_outcome n (words_of gs) s
unfolding records_outcome run_outcome
records_words n gs s =
    either (line_count_good n)
    (λ a.
    either (leb (length gs) max_gates)
    (λ b.
    let few : length gs ≤ max_gates = leb-true _ _ b in
    demand_met _ _ _ _ a
    ∙ demand_met _ _ _ _ b
    ∙ sym (ap (λ (o : Outcome ℕ). and_then o (λ k. after (gates_of ws))) (check_gates n ws max_gates a ∙ gates_sized n ws max_gates _ (size_good n ws max_gates thirds (omega (arith, long))))
    ∙ ap (λ (l : List Gate). and_then (valid_from n 0 l) (λ k. after l)) (gates_words gs)))
    (λ b.
    let many : max_gates < length gs = leb-false _ _ b in
    demand_met _ _ _ _ a
    ∙ demand_failed _ _ _ _ b
    ∙ sym (run_size n ws s a too_many_gates 0 (size_many n ws max_gates thirds (omega (arith, long))))))
    (λ a. demand_failed _ _ _ _ a ∙ sym (run_lines n ws s a))
  where
    ws : List ℕ
    ws = words_of gs

    long : length ws / 3 ≡ length gs
    long = omega (arith, words_length gs)

    thirds : length ws % 3 ≡ 0
    thirds = omega (arith, words_length gs)

    after : List Gate → Outcome ℕ
    after l = demand (ltb s (2 ^ n)) bad_state 0 (served (run l s))

-- ---- served exactly for a cascade and a state, refused exactly by what is wrong

module _ (n : ℕ) (gs : List Gate) (s : ℕ) where
  pub records_served : (t : ℕ) → records_outcome n gs s ≡ served t → (Cascade n (words_of gs) max_gates (length gs)) × (s < 2 ^ n) × (t ≡ run gs s)
  records_served t e =
      let (k, c, h, f) = run_served n (words_of gs) s t (sym (records_words n gs s) ∙ e) in
      let count : k ≡ length gs = sym (cascade_count n (words_of gs) max_gates k c) ∙ ap length (gates_words gs) in
      (subst (Cascade n (words_of gs) max_gates) count c, h, f ∙ ap (λ (l : List Gate). run l s) (gates_words gs))

  pub served_records : (t : ℕ) → Cascade n (words_of gs) max_gates (length gs) → s < 2 ^ n → t ≡ run gs s → records_outcome n gs s ≡ served t
  served_records t c h e =
      records_words n gs s ∙ served_run n (words_of gs) s t (length gs) c h (e ∙ ap (λ (l : List Gate). run l s) (sym (gates_words gs)))

  pub records_refused : (number place : ℕ) → records_outcome n gs s ≡ refused number place → RunRefused n (words_of gs) s number place
  records_refused number place e = (run_refused n (words_of gs) s number place).0 (sym (records_words n gs s) ∙ e)

  pub refused_records : (number place : ℕ) → RunRefused n (words_of gs) s number place → records_outcome n gs s ≡ refused number place
  refused_records number place f = records_words n gs s ∙ (run_refused n (words_of gs) s number place).1 f
