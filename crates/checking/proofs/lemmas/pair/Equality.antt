-- The theorem for pairs: of our emission, of an emitter of any list, and after calls on each cascade alone. Assumes nothing.
use Rattle.std.proofs.Common.{◌≡◌, ℕ, ◌+◌, ◌≤◌, true, leb, List, length, replicate, ℤ, pos, sym, refl, ◌∙◌, subst, subst₂, arith, le-leb, leb-true}
use lib.ListN.{length-replicate}
use Rattle.circuit.specs.declared.gate.Gate.{Gate}
use Rattle.circuit.specs.declared.header.Header.{Header}
use Rattle.circuit.specs.Gate.{max_lines, max_gates}
use Rattle.circuit.specs.Header.{marks_good}
use Rattle.circuit.specs.Outcome.{Outcome, served, demand}
use Rattle.circuit.specs.Refusal.{no_room}
use Rattle.circuit.specs.Words.{gates_of, words_of, all_valid, Headed, headed_pair_outcome}
use Rattle.circuit.proofs.Promises.{demanded, then_both, demand_met, gates_words, words_cascade, headed_pair_served}
use Rattle.checking.specs.declared.clauses.Totals.{Totals}
use Rattle.checking.specs.Clauses.{Clause}
use Rattle.checking.specs.Stored.{stored}
use Rattle.checking.specs.Equality.{after_all}
use Rattle.checking.specs.Pair.{pair_clauses, pair_variables, pair_sizes_outcome, pair_emit_outcome, pair_emit_buffer}
use Rattle.checking.specs.PairTold.{TellsFor, ToldFor, PairServedTells, PairEmitted}
use Rattle.checking.specs.PairEquality.{PairEqualityOf, PairEqualityAfter, PairEquality}
use Rattle.checking.specs.PairLaws.{PairEqualityOfList}
use Rattle.checking.proofs.lemmas.Listed.{served_same, Listed, are_read, only_read, list_listed}
use Rattle.checking.proofs.lemmas.clauses.Sums.{sizes_in}
use Rattle.checking.proofs.lemmas.pair.Meaning.{pair_tells}
use Rattle.checking.proofs.lemmas.pair.Alone.{steps_alone}
use Rattle.checking.proofs.lemmas.pair_emission.Answers.{pair_emit_good, pair_emit_leaves}

-- an answer and a buffer that are those of the clause list of two cascades with the header h
abbrev PairListed : Header → List ℕ → List ℕ → List ℤ → Outcome Totals → List ℤ → Type 0
PairListed h a b out = Listed (pair_variables h (gates_of a) (gates_of b)) (pair_clauses h (gates_of a) (gates_of b)) out

module _ (h : Header) (a b : List ℕ) (i j : ℕ) (c : Headed h a max_gates i) (d : Headed h b max_gates j) where
  abbrev cs : List Clause
  cs = pair_clauses h (gates_of a) (gates_of b)

  abbrev sizes : Totals
  sizes = sizes_in (pair_variables h (gates_of a) (gates_of b)) cs

  -- then they tell of the two
  told_for : (out : List ℤ) (answer : Outcome Totals) (buffer : List ℤ) → PairListed h a b out answer buffer → ToldFor h a b sizes buffer
  told_for out answer buffer l =
      record {
        clauses = cs;
        are_read = are_read (pair_variables h (gates_of a) (gates_of b)) cs out answer buffer l;
        counted = refl;
        tells = pair_tells h (gates_of a) (gates_of b) c.marks c.cascade.lines_high c.cascade.gates d.cascade.gates;
      }

  emitted_for : (out : List ℤ) (answer : Outcome Totals) (buffer : List ℤ) → PairListed h a b out answer buffer → PairEmitted h a b answer buffer
  emitted_for out answer buffer l = record { totals = sizes; is_served = l.counts; told = told_for out answer buffer l }

  -- as those of our emission are
  pair_emitted : (room : ℕ) → pair_emit_outcome h a h b room ≡ demand (leb (length (stored cs)) room) no_room 0 (served sizes)
  pair_emitted = pair_emit_good h a h b (record { first = i; second = j }) (record { first_good = c; second_good = d; header = refl })

  emission_listed : (out : List ℤ) → length (stored cs) ≤ length out → PairListed h a b out (pair_emit_outcome h a h b (length out)) (pair_emit_buffer h a h b out)
  emission_listed out room =
      let e : pair_emit_outcome h a h b (length out) ≡ served sizes = pair_emitted (length out) ∙ demand_met _ _ _ _ (le-leb _ (length out) room) in
      record { counts = e; words = pair_emit_leaves h a h b out sizes e }

  -- where it is served
  served_told : (out : List ℤ) (totals : Totals) → pair_emit_outcome h a h b (length out) ≡ served totals → ToldFor h a b totals (pair_emit_buffer h a h b out)
  served_told out totals e =
      let (met, s) = demanded (leb (length (stored cs)) (length out)) no_room 0 (served sizes) totals (sym (pair_emitted (length out)) ∙ e) in
      subst (λ (t : Totals). ToldFor h a b t (pair_emit_buffer h a h b out)) (served_same sizes totals s)
      (told_for out _ _ (emission_listed out (leb-true _ (length out) met)))

pub pair_equality : PairEquality
pair_equality h a b i j c d out room = emitted_for h a b i j c d out _ _ (emission_listed h a b i j c d out room)

pub our_pair_list : PairEqualityOfList pair_variables pair_clauses
our_pair_list h a b i j c d out room =
    emitted_for h a b i j c d out _ _ (list_listed (pair_variables h (gates_of a) (gates_of b)) (pair_clauses h (gates_of a) (gates_of b)) out room)

pub pair_served_tells : (ha : Header) (a : List ℕ) (hb : Header) (b : List ℕ) (out : List ℤ)
    → PairServedTells ha a hb b (pair_emit_outcome ha a hb b (length out)) (pair_emit_buffer ha a hb b out)
unfolding pair_emit_outcome pair_sizes_outcome
pair_served_tells ha a hb b out totals e =
    let (t, p, f) = then_both (pair_sizes_outcome ha a hb b) _ totals e in
    let (counts, q, g) = then_both (headed_pair_outcome ha a hb b) _ t p in
    let pair = headed_pair_served ha a hb b counts q in
    record {
      first = counts.first;
      first_good = pair.first_good;
      second = counts.second;
      second_good = pair.second_good;
      header = pair.header;
      told =
          subst (λ (k : Header). Headed k b max_gates counts.second → pair_emit_outcome ha a k b (length out) ≡ served totals → ToldFor ha a b totals (pair_emit_buffer ha a k b out))
          pair.header (λ d s. served_told ha a b counts.first counts.second pair.first_good d out totals s) pair.second_good e;
    }

-- ---- after calls on each cascade alone

pub pair_after : (emits : Header → List ℕ → Header → List ℕ → ℕ → Outcome Totals) (leaves : Header → List ℕ → Header → List ℕ → List ℤ → List ℤ)
    → PairEqualityOf emits leaves → PairEqualityAfter emits leaves
pair_after emits leaves by h a b i j c d on_a on_b out room =
    let s = steps_alone h a b i j c d on_a on_b in
    let e = by h (after_all on_a a) (after_all on_b b) s.first s.second s.first_good s.second_good out room in
    record {
      totals = e.totals;
      is_served = e.is_served;
      told = record { clauses = e.told.clauses; are_read = e.told.are_read; counted = e.told.counted; tells = s.tells e.totals.variables e.told.clauses e.told.tells };
    }

-- ---- of an emitter of any list that has the theorem

module _ (variables : Header → List Gate → List Gate → ℕ) (clauses : Header → List Gate → List Gate → List Clause) (holds : PairEqualityOfList variables clauses) where
  pub pair_list_told : (h : Header) (a b : List ℕ) (i j : ℕ) → Headed h a max_gates i → Headed h b max_gates j
      → TellsFor h (variables h (gates_of a) (gates_of b)) (clauses h (gates_of a) (gates_of b)) (gates_of a) (gates_of b)
  pair_list_told h a b i j c d =
      let v : ℕ = variables h (gates_of a) (gates_of b) in
      let cs : List Clause = clauses h (gates_of a) (gates_of b) in
      let ours : ℕ = length (stored (pair_clauses h (gates_of a) (gates_of b))) in
      let out : List ℤ = replicate (ours + length (stored cs)) (pos 0) in
      let long : length out ≡ ours + length (stored cs) = length-replicate _ _ in
      let e = holds h a b i j c d out (omega arith) in
      let (p, q) = only_read v cs out _ _ (list_listed v cs out (omega arith)) e.totals e.told.clauses e.is_served e.told.are_read in
      subst₂ (λ (m : ℕ) (l : List Clause). TellsFor h m l (gates_of a) (gates_of b)) p q e.told.tells

  -- the same by gates
  pub pair_gates_told : (h : Header) (a b : List Gate) → marks_good h ≡ true → 1 ≤ h.lines → h.lines ≤ max_lines → length a ≤ max_gates → length b ≤ max_gates
      → all_valid h.lines a ≡ true → all_valid h.lines b ≡ true → TellsFor h (variables h a b) (clauses h a b) a b
  pair_gates_told h a b good low high k l v w =
      subst₂ (λ (x y : List Gate). TellsFor h (variables h x y) (clauses h x y) x y) (gates_words a) (gates_words b)
      (pair_list_told h (words_of a) (words_of b) (length a) (length b)
      (record { marks = good; cascade = words_cascade h.lines a max_gates low high k v })
      (record { marks = good; cascade = words_cascade h.lines b max_gates low high l w }))
