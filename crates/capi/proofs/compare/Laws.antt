-- The answer in C of the cascade with fewer gates, from what `fewer_gates_refusal` and `fewer_gates` owe. Assumes nothing.
use Rattle.std.proofs.Common.{◌≡◌, sym, ap, ◌∙◌, Bool, true, false, cond, List, [], ℕ, ◌*◌, ◌/◌, ◌<◌, ◌≤◌, arith, leb, ltb, length, leb-true, leb-false, lt-ltb, le-ltb, ltb-true, ltb-false}
use mir.Val.{bool_byte}
use Rattle.bits.proofs.Bools.{either, cond-true, cond-false}
use Rattle.circuit.specs.Gate.{max_gates}
use Rattle.circuit.specs.Outcome.{Outcome, served, refused}
use Rattle.circuit.specs.Words.{Cascade, pair_outcome}
use Rattle.circuit.specs.declared.words.Counts.{Counts}
use Rattle.circuit.proofs.Promises.{pair_served}
use Rattle.checking.proofs.Promises.{refused_pick, made_pick}
use Rattle.checking.specs.Compare.{picked, pick_outcome}
use Rattle.capi.specs.declared.compare.CascadeFewerAnswer.{CascadeFewerAnswer}
use Rattle.capi.specs.Compare.{fewer_answer}

abbrev answer : ℕ → ℕ → CascadeFewerAnswer
answer second gates = record { number = 0; place = 0; second = second; gates = gates }

module _ (na : ℕ) (a : List ℕ) (nb : ℕ) (b : List ℕ) where
  pub fewer_refused : (number place : ℕ) → pick_outcome na a nb b ≡ refused number place
      → record { number = number; place = place; second = 0; gates = 0 } ≡ fewer_answer (pair_outcome na a nb b)
  fewer_refused number place e = sym (ap fewer_answer (refused_pick na a nb b number place e))

  -- the one that was picked, by its words
  module _ (counts : Counts) (p : pair_outcome na a nb b ≡ served counts) (words : List ℕ) (w : words ≡ picked (pair_outcome na a nb b) a b []) where
    first : Cascade na a max_gates counts.first
    first = (pair_served na a nb b counts p).first_good

    second : Cascade nb b max_gates counts.second
    second = (pair_served na a nb b counts p).second_good

    which : words ≡ cond (leb counts.first counts.second) a b
    which = w ∙ ap (λ (o : Outcome Counts). picked o a b []) p

    is_first : leb counts.first counts.second ≡ true → length words ≡ 3 * counts.first
    is_first t = ap (λ (l : List ℕ). length l) (which ∙ cond-true _ _ _ t) ∙ first.size

    is_second : leb counts.first counts.second ≡ false → length words ≡ 3 * counts.second
    is_second t = ap (λ (l : List ℕ). length l) (which ∙ cond-false _ _ _ t) ∙ second.size

    shorter : length words < length a → answer 1 (length words / 3) ≡ fewer_answer (pair_outcome na a nb b)
    shorter h =
        either (leb counts.first counts.second)
        (λ t. absurd (let n = is_first t in let s = first.size in omega arith))
        (λ t.
        let n = is_second t in
        let k : length words / 3 ≡ counts.second = omega arith in
        ap (answer 1) k ∙ sym (ap fewer_answer p ∙ cond-true _ _ (answer 0 counts.first) (lt-ltb counts.second counts.first (leb-false counts.first counts.second t))))

    as_long : length a ≤ length words → answer 0 (length words / 3) ≡ fewer_answer (pair_outcome na a nb b)
    as_long h =
        either (leb counts.first counts.second)
        (λ t.
        let n = is_first t in
        let k : length words / 3 ≡ counts.first = omega arith in
        ap (answer 0) k ∙ sym (ap fewer_answer p ∙ cond-false _ (answer 1 counts.second) _ (le-ltb counts.second counts.first (leb-true counts.first counts.second t))))
        (λ t. absurd (let n = is_second t in let s = first.size in let l = leb-false counts.first counts.second t in omega arith))

  pub fewer_picked : (words : List ℕ) → pick_outcome na a nb b ≡ served tt → words ≡ picked (pair_outcome na a nb b) a b []
      → answer (bool_byte (ltb (length words) (length a))) (length words / 3) ≡ fewer_answer (pair_outcome na a nb b)
  fewer_picked words e w =
      let (counts, p) = made_pick na a nb b e in
      either (ltb (length words) (length a))
      (λ t. ap (λ (x : Bool). answer (bool_byte x) (length words / 3)) t ∙ shorter counts p words w (ltb-true _ _ t))
      (λ t. ap (λ (x : Bool). answer (bool_byte x) (length words / 3)) t ∙ as_long counts p words w (ltb-false _ _ t))
