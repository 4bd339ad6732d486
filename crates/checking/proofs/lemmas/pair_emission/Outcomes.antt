-- What the parts of the sizes answer for caller's headers and words. Assumes nothing.
use Rattle.std.proofs.Common.{◌≡◌, ℕ, ◌≤◌, true, false, List, length, ap, ◌∙◌, subst, ap₂, arith}
use Rattle.bits.proofs.Bools.{refuted}
use Rattle.circuit.specs.declared.header.Header.{Header}
use Rattle.circuit.specs.declared.gate.Gate.{Gate}
use Rattle.circuit.specs.Gate.{max_lines, max_gates}
use Rattle.circuit.specs.Header.{marks_good, same_marks}
use Rattle.circuit.specs.Outcome.{Outcome, served, refused, and_then, before, then}
use Rattle.circuit.specs.Refusal.{bad_line_count, line_counts_differ, bad_mark, marks_differ}
use Rattle.circuit.specs.Words.{gates_of, all_valid, line_count_good, size_outcome, headed_outcome, Headed, HeadedPair, other_lines, other_marks}
use Rattle.circuit.proofs.Promises.{unserved, cascade_count, then_served, then_refused, then_both, then_fails, check_gates, gates_refused, gates_sized, headed_lines, headed_marks, headed_words, headed_served, headed_refused, served_headed_pair, headed_pair_refused, same_header, header_same}
use Rattle.checking.specs.declared.sums.Sums.{Sums}
use Rattle.checking.specs.Pair.{pair_sizes_outcome}
use Rattle.checking.specs.Sizes.{gates_sizes}
use Rattle.checking.specs.private.Sums.{sums_of, Small, PairSmall, pair_totals}
use Rattle.checking.proofs.lemmas.clauses.Totals.{small_more, small_sums, summed_words}
use Rattle.checking.proofs.lemmas.pair_emission.Sums.{pair_totals_made}

-- ---- the sums of one cascade

-- what the code answers for it
abbrev pub headed_sums : Header → List ℕ → Outcome Sums
headed_sums h ws = and_then (headed_outcome h ws max_gates) (λ k. served (sums_of h.lines (gates_of ws)))

module _ (h : Header) (ws : List ℕ) where
  pub sums_lines : line_count_good h.lines ≡ false → headed_sums h ws ≡ refused bad_line_count 0
  sums_lines e = then_refused _ _ _ _ (headed_lines h ws max_gates e)

  module _ (lines : line_count_good h.lines ≡ true) where
    pub sums_marks : marks_good h ≡ false → headed_sums h ws ≡ refused bad_mark 0
    sums_marks e = then_refused _ _ _ _ (headed_marks h ws max_gates lines e)

    module _ (marks : marks_good h ≡ true) where
      pub sums_size : (number place : ℕ) → size_outcome ws max_gates ≡ refused number place → headed_sums h ws ≡ refused number place
      sums_size number place e =
          then_refused _ _ _ _ (headed_words h ws max_gates marks ∙ check_gates h.lines ws max_gates lines ∙ gates_refused h.lines ws max_gates number place e)

      pub sums_gates : (k : ℕ) → size_outcome ws max_gates ≡ served k → headed_sums h ws ≡ summed_words h.lines ws
      sums_gates k e =
          ap (λ (o : Outcome ℕ). and_then o (λ k. served (sums_of h.lines (gates_of ws))))
          (headed_words h ws max_gates marks ∙ check_gates h.lines ws max_gates lines ∙ gates_sized h.lines ws max_gates k e)

-- ---- the sizes of a pair

-- sums over no more gates than a cascade may have
small : (n : ℕ) (gs : List Gate) → n ≤ max_lines → all_valid n gs ≡ true → length gs ≤ max_gates → (s : Sums) → sums_of n gs ≡ s → Small max_gates s.totals
small n gs few v short s e = subst (λ (x : Sums). Small max_gates x.totals) e (small_more (length gs) max_gates (gates_sizes gs) short (small_sums n gs few v))

module _ (ha : Header) (a : List ℕ) (hb : Header) (b : List ℕ) where
  pub sizes_first : (number place : ℕ) → headed_sums ha a ≡ refused number place → pair_sizes_outcome ha a hb b ≡ refused number place
  unfolding pair_sizes_outcome
  sizes_first number place e =
      then_refused _ _ _ _
      ((headed_pair_refused ha a hb b number place).1 (before (headed_refused ha a max_gates number place (then_fails (headed_outcome ha a max_gates) (λ k. sums_of ha.lines (gates_of a)) number place e))))

  module _ (s : Sums) (first : headed_sums ha a ≡ served s) where
    abbrev first_good : (k : ℕ) × Headed ha a max_gates k
    first_good =
        let (k, e, f) = then_both (headed_outcome ha a max_gates) (λ k. served (sums_of ha.lines (gates_of a))) s first in
        (k, headed_served ha a max_gates k e)

    pub sizes_second : (number place : ℕ) → headed_sums hb b ≡ refused number place → pair_sizes_outcome ha a hb b ≡ refused number place
    unfolding pair_sizes_outcome
    sizes_second number place e =
        then_refused _ _ _ _
        ((headed_pair_refused ha a hb b number place).1
        (then first_good.0 first_good.1 (before (headed_refused hb b max_gates number place (then_fails (headed_outcome hb b max_gates) (λ k. sums_of hb.lines (gates_of b)) number place e)))))

    module _ (t : Sums) (second : headed_sums hb b ≡ served t) where
      abbrev second_good : (k : ℕ) × Headed hb b max_gates k
      second_good =
          let (k, e, f) = then_both (headed_outcome hb b max_gates) (λ k. served (sums_of hb.lines (gates_of b))) t second in
          (k, headed_served hb b max_gates k e)

      pub sizes_lines : (ha.lines ≡ hb.lines → ⊥) → pair_sizes_outcome ha a hb b ≡ refused line_counts_differ 0
      unfolding pair_sizes_outcome
      sizes_lines d =
          then_refused _ _ _ _
          ((headed_pair_refused ha a hb b line_counts_differ 0).1 (then first_good.0 first_good.1 (then second_good.0 second_good.1 (other_lines d))))

      module _ (lines : ha.lines ≡ hb.lines) where
        pub sizes_marks : same_marks ha hb ≡ false → pair_sizes_outcome ha a hb b ≡ refused marks_differ 0
        unfolding pair_sizes_outcome
        sizes_marks d =
            then_refused _ _ _ _
            ((headed_pair_refused ha a hb b marks_differ 0).1
            (then first_good.0 first_good.1 (then second_good.0 second_good.1 (other_marks lines (λ e. refuted d (header_same ha hb e))))))

        first_sums : sums_of ha.lines (gates_of a) ≡ s
        first_sums =
            let (k, e, f) = then_both (headed_outcome ha a max_gates) (λ k. served (sums_of ha.lines (gates_of a))) s first in
            unserved f

        second_sums : sums_of ha.lines (gates_of b) ≡ t
        second_sums =
            let (k, e, f) = then_both (headed_outcome hb b max_gates) (λ k. served (sums_of hb.lines (gates_of b))) t second in
            ap (λ (n : ℕ). sums_of n (gates_of b)) lines ∙ unserved f

        second_valid : all_valid ha.lines (gates_of b) ≡ true
        second_valid = ap (λ (n : ℕ). all_valid n (gates_of b)) lines ∙ second_good.1.cascade.gates

        -- what is asked where the totals are made
        pub pair_small : PairSmall ha s t
        pair_small =
            let few = first_good.1.cascade.lines_high in
            record {
              lines = few;
              marks = first_good.1.marks;
              first = small ha.lines (gates_of a) few first_good.1.cascade.gates (omega (arith, cascade_count _ _ _ _ first_good.1.cascade, first_good.1.cascade.few)) s first_sums;
              second = small ha.lines (gates_of b) few second_valid (omega (arith, cascade_count _ _ _ _ second_good.1.cascade, second_good.1.cascade.few)) t second_sums;
            }

        pub sizes_made : same_marks ha hb ≡ true → pair_sizes_outcome ha a hb b ≡ served (pair_totals ha s t)
        unfolding pair_sizes_outcome
        sizes_made d =
            let header : ha ≡ hb = same_header ha hb lines d in
            let pair : HeadedPair ha a hb b (record { first = first_good.0; second = second_good.0 }) =
            record { first_good = first_good.1; second_good = second_good.1; header = header } in
            then_served _ _ _ (served_headed_pair ha a hb b _ pair)
            ∙ ap served (pair_totals_made ha (gates_of a) (gates_of b) pair_small.lines pair_small.marks ∙ ap₂ (pair_totals ha) first_sums second_sums)
