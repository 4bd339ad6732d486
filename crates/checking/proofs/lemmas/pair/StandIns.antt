-- Small marked pairs on which the stand-ins for the pair's clause list go wrong. Assumes nothing.
use Rattle.std.proofs.Common.{◌≡◌, ℕ, zero, suc, ◌<◌, ◌≤◌, Bool, true, false, List, [], ◌∷◌, ◌++◌, length, sym, refl, ap, ◌∙◌, subst, subst₂, arith}
use mathlib.Core.Bool.{false≢true, true≢false}
use Rattle.bits.specs.Digits.{bit, lines_in}
use Rattle.bits.specs.Lists.{fold}
use Rattle.bits.proofs.Digits.{bit_none}
use Rattle.bits.proofs.Bools.{refuted}
use Rattle.circuit.specs.declared.gate.Gate.{Gate}
use Rattle.circuit.specs.declared.header.Header.{Header}
use Rattle.circuit.specs.Gate.{valid, fires, inverted, apply, controls_below}
use Rattle.circuit.specs.Header.{marks_good, marked}
use Rattle.circuit.specs.Words.{all_valid}
use Rattle.circuit.specs.Run.{run, EqualFor}
use Rattle.circuit.proofs.Promises.{run_none, run_one, valid_none, valid_both}
use Rattle.checking.specs.Clauses.{Clause, moved, gates_clauses, used_after, current_after, targeted, up_from, difference_clauses}
use Rattle.checking.specs.Satisfaction.{holds, satisfies, Satisfying}
use Rattle.checking.specs.Pair.{without_junk, pair_variables}
use Rattle.checking.specs.PairTold.{TellsFor}
use Rattle.checking.specs.PairLaws.{PairEqualityOfList, side_with, constants_left_out, junk_counted, junk_counted_variables, started_from_outputs, one_for_all, ValuesUnread, JunkUnread}
use Rattle.checking.proofs.lemmas.clauses.Gates.{untouched}
use Rattle.checking.proofs.lemmas.clauses.StandIns.{free, controlled, free_one, free_two, controlled_two, controlled_keeps}
use Rattle.checking.proofs.lemmas.pair.Equality.{pair_gates_told}

-- an emitter whose list is satisfied though the two are equal
equal_satisfied : (variables : Header → List Gate → List Gate → ℕ) (clauses : Header → List Gate → List Gate → List Clause) (h : Header) (a b : List Gate)
    → marks_good h ≡ true → 1 ≤ h.lines → h.lines ≤ 2 → length a ≤ 1 → length b ≤ 1 → all_valid h.lines a ≡ true → all_valid h.lines b ≡ true
    → EqualFor h a b → (σ : List Bool) → Satisfying (variables h a b) (clauses h a b) σ → PairEqualityOfList variables clauses → ⊥
equal_satisfied variables clauses h a b good low high short_a short_b va vb same σ sat holds =
    (pair_gates_told variables clauses holds h a b good low (omega arith) (omega arith) (omega arith) va vb).equal.0 same σ sat

-- NOT on one line, and NOT controlled by a line that is to be 0
one_not : all_valid 1 (free ∷ []) ≡ true
one_not = valid_both 1 free [] free_one (valid_none 1)

one_controlled : all_valid 2 (controlled ∷ []) ≡ true
one_controlled = valid_both 2 controlled [] controlled_two (valid_none 2)

abbrev control_off : Header
control_off = record { lines = 2; constants = 2; values = 0; junk = 0 }

abbrev input_off : Header
input_off = record { lines = 1; constants = 1; values = 0; junk = 0 }

abbrev all_junk : Header
all_junk = record { lines = 1; constants = 0; values = 0; junk = 1 }

control_off_good : marks_good control_off ≡ true
unfolding marks_good
control_off_good = refl

input_off_good : marks_good input_off ≡ true
unfolding marks_good
input_off_good = refl

all_junk_good : marks_good all_junk ≡ true
unfolding marks_good
all_junk_good = refl

-- the controlled NOT does nothing on a permitted state
off_keeps : (x : ℕ) → x < 4 → bit x 1 ≡ false → run (controlled ∷ []) x ≡ run [] x
unfolding bit
off_keeps zero h e = run_one controlled 0 ∙ controlled_keeps.0 ∙ sym (run_none 0)
off_keeps (suc zero) h e = run_one controlled 1 ∙ controlled_keeps.1 ∙ sym (run_none 1)
off_keeps (suc (suc zero)) h e = absurd (true≢false e)
off_keeps (suc (suc (suc zero))) h e = absurd (true≢false e)
off_keeps (suc (suc (suc (suc x)))) h e = absurd (omega arith)

off_equal : EqualFor control_off (controlled ∷ []) []
off_equal x p k c = ap (λ (y : ℕ). bit y k) (off_keeps x p.state (p.constants 1 second ∙ bit_none 1))
  where
    second : bit 2 1 ≡ true
    second = unfold bit in refl

junk_equal : EqualFor all_junk (free ∷ []) []
junk_equal x p zero c = absurd (refuted c.kept (unfold bit in refl))
junk_equal x p (suc k) c = let b = c.below in absurd (omega arith)

pub constants_left_out_refuted : PairEqualityOfList pair_variables constants_left_out → ⊥
unfolding constants_left_out side_with gates_clauses difference_clauses used_after current_after moved targeted up_from without_junk holds satisfies bit controls_below pair_variables
constants_left_out_refuted =
    equal_satisfied pair_variables constants_left_out control_off (controlled ∷ []) [] control_off_good (omega arith) (omega arith) (omega arith) (omega arith) one_controlled (valid_none 2)
    off_equal (false ∷ true ∷ true ∷ true ∷ false ∷ []) (record { whole = refl; satisfied = refl })

pub junk_counted_refuted : PairEqualityOfList junk_counted_variables junk_counted → ⊥
unfolding junk_counted side_with gates_clauses difference_clauses used_after current_after moved targeted up_from lines_in holds satisfies bit controls_below junk_counted_variables
junk_counted_refuted =
    equal_satisfied junk_counted_variables junk_counted all_junk (free ∷ []) [] all_junk_good (omega arith) (omega arith) (omega arith) (omega arith) one_not (valid_none 1)
    junk_equal (false ∷ true ∷ true ∷ []) (record { whole = refl; satisfied = refl })

pub started_from_outputs_refuted : PairEqualityOfList pair_variables started_from_outputs → ⊥
unfolding started_from_outputs side_with gates_clauses difference_clauses used_after current_after moved targeted up_from without_junk lines_in holds satisfies bit controls_below pair_variables
started_from_outputs_refuted =
    equal_satisfied pair_variables started_from_outputs input_off (free ∷ []) (free ∷ []) input_off_good (omega arith) (omega arith) (omega arith) (omega arith) one_not one_not
    (λ x p k c. refl) (false ∷ true ∷ false ∷ true ∷ []) (record { whole = refl; satisfied = refl })

-- NOT against nothing
not_inverts : bit (run (free ∷ []) 0) 0 ≡ bit (run [] 0) 0 → ⊥
unfolding fold apply valid inverted fires bit
not_inverts e = true≢false e

pub contradiction_refuted : (variables : Header → List Gate → List Gate → ℕ) (cs : List Clause) → ((σ : List Bool) → satisfies σ cs ≡ false) → PairEqualityOfList variables (one_for_all cs) → ⊥
contradiction_refuted variables cs never h =
    let t = pair_gates_told variables (one_for_all cs) h input_off (free ∷ []) [] input_off_good (omega arith) (omega arith) (omega arith) (omega arith) one_not (valid_none 1) in
    not_inverts (t.equal.1 (λ σ sat. false≢true (sym (never σ) ∙ sat.satisfied)) 0 (record { state = omega arith; constants = λ k e. refl }) 0 (record { below = omega arith; kept = bit_none 0 }))

pub unsatisfied_refuted : (variables : Header → List Gate → List Gate → ℕ) (clauses : Header → List Gate → List Gate → List Clause)
    → ((h : Header) (a b : List Gate) → marked h ≡ true → (σ : List Bool) → satisfies σ (clauses h a b) ≡ false) → PairEqualityOfList variables clauses → ⊥
unsatisfied_refuted variables clauses never h =
    let t = pair_gates_told variables clauses h input_off (free ∷ []) [] input_off_good (omega arith) (omega arith) (omega arith) (omega arith) one_not (valid_none 1) in
    not_inverts (t.equal.1 (λ σ sat. false≢true (sym (never input_off (free ∷ []) [] refl σ) ∙ sat.satisfied)) 0 (record { state = omega arith; constants = λ k e. refl }) 0 (record { below = omega arith; kept = bit_none 0 }))

-- NOT against NOT are equal, and NOT against NOT twice are not
twice_differs : EqualFor input_off (free ∷ []) (free ∷ free ∷ []) → ⊥
unfolding fold apply valid inverted fires bit
twice_differs e = true≢false (e 0 (record { state = omega arith; constants = λ k c. refl }) 0 (record { below = omega arith; kept = refl }))

pub composed_refuted : (variables : Header → List Gate → List Gate → ℕ) (clauses : Header → List Gate → List Gate → List Clause)
    → ((h : Header) (a b : List Gate) → marks_good h ≡ true → marked h ≡ true → TellsFor h (variables h a b) (clauses h a b) a (a ++ b)) → PairEqualityOfList variables clauses → ⊥
composed_refuted variables clauses composed h =
    let t = pair_gates_told variables clauses h input_off (free ∷ []) (free ∷ []) input_off_good (omega arith) (omega arith) (omega arith) (omega arith) one_not one_not in
    twice_differs ((composed input_off (free ∷ []) (free ∷ []) input_off_good refl).equal.1 (t.equal.0 (λ x p k c. refl)))

-- ---- lists that do not look at the marks

-- an emitter whose list is the same with two headers, though the two are equal with one of them and not with the other
alike_told : (variables : Header → List Gate → List Gate → ℕ) (clauses : Header → List Gate → List Gate → List Clause) (h k : Header) (g : Gate)
    → marks_good h ≡ true → marks_good k ≡ true → h.lines ≡ 2 → k.lines ≡ 2 → valid 2 g ≡ true
    → variables h (g ∷ []) [] ≡ variables k (g ∷ []) [] → clauses h (g ∷ []) [] ≡ clauses k (g ∷ []) []
    → PairEqualityOfList variables clauses → EqualFor h (g ∷ []) [] → EqualFor k (g ∷ []) []
alike_told variables clauses h k g good fine two_h two_k v same_variables same_clauses holds equal =
    (told k fine two_k).equal.1
    (subst₂ (λ (m : ℕ) (cs : List Clause). (σ : List Bool) → Satisfying m cs σ → ⊥) same_variables same_clauses ((told h good two_h).equal.0 equal))
  where
    told : (h : Header) → marks_good h ≡ true → h.lines ≡ 2 → TellsFor h (variables h (g ∷ []) []) (clauses h (g ∷ []) []) (g ∷ []) []
    told h good two =
        pair_gates_told variables clauses holds h (g ∷ []) [] good (omega arith) (omega arith) (omega arith) (omega arith)
        (subst (λ (n : ℕ). all_valid n (g ∷ []) ≡ true) (sym two) (valid_both 2 g [] v (valid_none 2))) (valid_none h.lines)

-- the line of the control is to be 1
abbrev control_on : Header
control_on = record { lines = 2; constants = 2; values = 2; junk = 0 }

control_on_good : marks_good control_on ≡ true
unfolding marks_good
control_on_good = refl

controlled_inverts : bit (run (controlled ∷ []) 2) 0 ≡ bit (run [] 2) 0 → ⊥
unfolding fold apply valid inverted fires bit
controlled_inverts e = true≢false e

on_differs : EqualFor control_on (controlled ∷ []) [] → ⊥
on_differs e = controlled_inverts (e 2 (record { state = omega arith; constants = λ k c. refl }) 0 (record { below = omega arith; kept = bit_none 0 }))

pub values_unread_refuted : (variables : Header → List Gate → List Gate → ℕ) (clauses : Header → List Gate → List Gate → List Clause)
    → ValuesUnread variables → ValuesUnread clauses → PairEqualityOfList variables clauses → ⊥
values_unread_refuted variables clauses p q holds =
    on_differs
    (alike_told variables clauses control_off control_on controlled control_off_good control_on_good refl refl controlled_two
    (p control_off control_on (controlled ∷ []) [] control_off_good control_on_good refl refl refl)
    (q control_off control_on (controlled ∷ []) [] control_off_good control_on_good refl refl refl) holds off_equal)

-- NOT on line 0, which is junk or counts, beside a constant line
abbrev target_junk : Header
target_junk = record { lines = 2; constants = 2; values = 0; junk = 1 }

abbrev target_counts : Header
target_counts = record { lines = 2; constants = 2; values = 0; junk = 2 }

target_junk_good : marks_good target_junk ≡ true
unfolding marks_good
target_junk_good = refl

target_counts_good : marks_good target_counts ≡ true
unfolding marks_good
target_counts_good = refl

target_junk_equal : EqualFor target_junk (free ∷ []) []
target_junk_equal x p zero c = absurd (refuted c.kept (unfold bit in refl))
target_junk_equal x p (suc zero) c =
    untouched 2 (free ∷ []) x 1 (omega arith) (valid_both 2 free [] free_two (valid_none 2)) (unfold targeted in refl) ∙ sym (ap (λ (y : ℕ). bit y 1) (run_none x))
target_junk_equal x p (suc (suc k)) c = let b = c.below in absurd (omega arith)

target_counts_differs : EqualFor target_counts (free ∷ []) [] → ⊥
target_counts_differs e = not_inverts (e 0 (record { state = omega arith; constants = λ k c. refl }) 0 (record { below = omega arith; kept = unfold bit in refl }))

pub junk_unread_refuted : (variables : Header → List Gate → List Gate → ℕ) (clauses : Header → List Gate → List Gate → List Clause)
    → JunkUnread variables → JunkUnread clauses → PairEqualityOfList variables clauses → ⊥
junk_unread_refuted variables clauses p q holds =
    target_counts_differs
    (alike_told variables clauses target_junk target_counts free target_junk_good target_counts_good refl refl free_two
    (p target_junk target_counts (free ∷ []) [] target_junk_good target_counts_good refl refl refl refl refl)
    (q target_junk target_counts (free ∷ []) [] target_junk_good target_counts_good refl refl refl refl refl) holds target_junk_equal)
