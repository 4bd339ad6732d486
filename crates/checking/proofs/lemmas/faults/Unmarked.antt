-- Without marks the sweep, the input check and the fault call are those of document 01. Assumes nothing.
use Rattle.std.proofs.Common.{◌≡◌, ℕ, zero, suc, ◌+◌, ◌^◌, ◌<◌, Bool, true, not, ◌&&◌, cond, ltb, leb, ◌↔◌, List, [], ◌∷◌, length, sym, refl, ap, ◌∙◌, ap₂, arith, lt-ltb, eqb-true}
use Rattle.bits.specs.Digits.{bit}
use Rattle.circuit.specs.declared.gate.Gate.{Gate}
use Rattle.circuit.specs.Header.{unmarked, permits}
use Rattle.circuit.specs.Outcome.{Outcome, served, refused, demand, and_then, written}
use Rattle.circuit.specs.Refusal.{bad_state, too_wide}
use Rattle.circuit.specs.Words.{gates_of, all_valid}
use Rattle.circuit.specs.Run.{run}
use Rattle.circuit.proofs.Promises.{unmarked_permits, unmarked_state, unmarked_alike, unmarked_pair, unmarked_equal, unmarked_differs, agrees_alike}
use Rattle.checking.specs.Compare.{outputs_differ, Agree, max_sweep_lines, Difference, none, lowest, lowest_from, difference_outcome, Says, differs_outcome}
use Rattle.checking.specs.Each.{each_from}
use Rattle.checking.specs.Faults.{fault_masks, fault_check, fault_outcome, fault_buffer}
use Rattle.checking.proofs.lemmas.pair_emission.Unmarked.{sizes_same, emission_same, emitted_same}
use Rattle.checking.specs.UnmarkedLaws.{unequal_on, lowest_unequal, unmarked_sweep, UnmarkedSays, unmarked_input, unmarked_faults, UnmarkedLaws}

-- a call goes on in the same way
same_then : {A B : Type 0} (o p : Outcome A) (f g : A → Outcome B) → o ≡ p → ((a : A) → f a ≡ g a) → and_then o f ≡ and_then p g
same_then o (served a) f g e s = ap (λ (x : Outcome _). and_then x f) e ∙ s a
same_then o (refused number place) f g e s = ap (λ (x : Outcome _). and_then x f) e

-- a list of states by the same test
same_each : (f g : ℕ → Bool) (number i : ℕ) (xs : List ℕ) → ((x : ℕ) → f x ≡ g x) → each_from f number i xs ≡ each_from g number i xs
unfolding each_from
same_each f g number i [] s = refl
same_each f g number i (x ∷ xs) s = ap₂ (λ (t : Bool) (more : Outcome ℕ). demand t number i more) (s x) (same_each f g number (i + 1) xs s)

same_outputs : (n : ℕ) (a b : List Gate) (x : ℕ) → outputs_differ (unmarked n) a b x ≡ unequal_on a b x
same_outputs n a b x = ap not (unmarked_alike n (run a x) (run b x))

-- every state below 2 ^ n is permitted
same_lowest : (n : ℕ) (a b : List Gate) (x k : ℕ) → x + k ≡ 2 ^ n → lowest_from (unmarked n) a b x k ≡ lowest_unequal a b x k
unfolding lowest_from lowest_unequal
same_lowest n a b x zero e = refl
same_lowest n a b x (suc k) e =
    ap₂ (λ (t : Bool) (d : Difference). cond t (lowest x) d)
    (ap₂ ◌&&◌ (unmarked_permits n x ∙ lt-ltb x (2 ^ n) (omega arith)) (same_outputs n a b x))
    (same_lowest n a b (x + 1) k (omega arith))

same_sweep : (na : ℕ) (a : List ℕ) (nb : ℕ) (b : List ℕ) → difference_outcome (unmarked na) a (unmarked nb) b ≡ unmarked_sweep na a nb b
unfolding difference_outcome
same_sweep na a nb b =
    same_then _ _ _ _ (unmarked_pair na a nb b) (λ counts.
    ap (λ (d : Difference). demand (leb na max_sweep_lines) too_wide 0 (served d)) (same_lowest na (gates_of a) (gates_of b) 0 (2 ^ na) (omega arith)))

same_input : (na : ℕ) (a : List ℕ) (nb : ℕ) (b : List ℕ) (x : ℕ) → differs_outcome (unmarked na) a (unmarked nb) b x ≡ unmarked_input na a nb b x
unfolding differs_outcome
same_input na a nb b x =
    same_then _ _ _ _ (unmarked_pair na a nb b) (λ counts.
    ap₂ (λ (t d : Bool). demand t bad_state 0 (served d)) (unmarked_permits na x) (same_outputs na (gates_of a) (gates_of b) x))

same_masks : (na : ℕ) (a : List ℕ) (nb : ℕ) (b xs : List ℕ) (room : ℕ) → fault_outcome (unmarked na) a (unmarked nb) b xs room ≡ unmarked_faults na a nb b xs room
unfolding fault_outcome fault_check
same_masks na a nb b xs room =
    same_then _ _ _ _
    (same_then _ _ _ _ (unmarked_pair na a nb b) (λ counts.
    same_then _ _ _ _ (same_each (permits (unmarked na)) (λ x. ltb x (2 ^ na)) _ 0 xs (unmarked_permits na)) (λ k.
    same_then _ _ _ _ (same_each (outputs_differ (unmarked na) (gates_of a) (gates_of b)) (unequal_on (gates_of a) (gates_of b)) _ 0 xs (same_outputs na (gates_of a) (gates_of b))) (λ m. refl))))
    (λ gates. refl)

same_buffer : (na : ℕ) (a : List ℕ) (nb : ℕ) (b xs out : List ℕ)
    → fault_buffer (unmarked na) a (unmarked nb) b xs out ≡ written (unmarked_faults na a nb b xs (length out)) (fault_masks na (gates_of a) xs) out
unfolding fault_buffer
same_buffer na a nb b xs out = ap (λ (o : Outcome ℕ). written o (fault_masks na (gates_of a) xs) out) (same_masks na a nb b xs (length out))

module _ (n : ℕ) (a b : List Gate) (va : all_valid n a ≡ true) (vb : all_valid n b ≡ true) where
  agree_run : (y : ℕ) → y < 2 ^ n → Agree (unmarked n) a b y ↔ (run a y ≡ run b y)
  agree_run y l = (
    (λ f. eqb-true _ _ (sym (unmarked_alike n (run a y) (run b y)) ∙ (agrees_alike (unmarked n) a b va vb y (unmarked_state n y l)).0 f)),
    (λ e k c. ap (λ (s : ℕ). bit s k) e),
  )

  same_says : (d : Difference) → Says (unmarked n) a b (served d) ↔ UnmarkedSays n a b d
  same_says none = unmarked_equal n a b va vb
  same_says (lowest x) = (
    (λ (d, f).
        let below = d.permitted.state in
        ((unmarked_differs n a b va vb x).0 d, (λ y h. (agree_run y (omega arith)).0 (f y h (unmarked_state n y (omega arith)))))),
    (λ (d, f).
        ((unmarked_differs n a b va vb x).1 d, (λ y h p. (agree_run y p.state).1 (f y h)))),
  )

pub unmarked_laws : UnmarkedLaws
unmarked_laws = record { sweep = same_sweep; says = same_says; input = same_input; masks = same_masks; buffer = same_buffer; sizes = sizes_same; emission = emission_same; emitted = emitted_same }
