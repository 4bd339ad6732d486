-- Two cascades compared on permitted states and lines that count. Assumes nothing.
use Rattle.std.proofs.Common.{◌≡◌, ℕ, ◌^◌, ◌<◌, Bool, true, false, ◌↔◌, List, ap, ◌∙◌}
use mathlib.Core.Bool.{beq}
use Rattle.bits.specs.Digits.{bit}
use Rattle.bits.proofs.Bools.{beq_true, beq_self, either, not_held, refuted}
use Rattle.bits.proofs.Digits.{bits_below}
use Rattle.circuit.specs.declared.gate.Gate.{Gate}
use Rattle.circuit.specs.declared.header.Header.{Header}
use Rattle.circuit.specs.Header.{unmarked, alike, Permitted, LineCounts}
use Rattle.circuit.specs.Words.{all_valid}
use Rattle.circuit.specs.Run.{run, Equal, Differs, EqualFor, DiffersFor}
use Rattle.circuit.proofs.lemmas.run.Laws.{run_below}
use Rattle.circuit.proofs.lemmas.header.Marks.{alike_lines, lines_alike, unlike_line, unmarked_state, unmarked_line}

-- two cascades are equal exactly when they differ on no state
pub equal_differs_for : (h : Header) (a b : List Gate) → EqualFor h a b ↔ ((x : ℕ) → DiffersFor h a b x → ⊥)
equal_differs_for h a b = (
  (λ e x d. d.outputs (e x d.permitted d.line d.counts)),
  (λ f x p k c.
      either (beq (bit (run a x) k) (bit (run b x) k)) (beq_true _ _)
      (λ t. absurd (f x (record { permitted = p; line = k; counts = c; outputs = λ e. refuted t (ap (λ (y : Bool). beq y (bit (run b x) k)) e ∙ beq_self (bit (run b x) k)) })))),
)

module _ (h : Header) (a b : List Gate) (va : all_valid h.lines a ≡ true) (vb : all_valid h.lines b ≡ true) where
  -- the two differ on a permitted state exactly where their outputs are not alike
  pub differs_unlike : (x : ℕ) → DiffersFor h a b x ↔ (Permitted h x × (alike h (run a x) (run b x) ≡ false))
  differs_unlike x = (
    (λ d. (d.permitted, not_held _ (λ e. d.outputs (alike_lines h (run a x) (run b x) e d.line d.counts)))),
    (λ (p, e).
        let (k, c, o) = unlike_line h (run a x) (run b x) (run_below h.lines a va x p.state) (run_below h.lines b vb x p.state) e in
        record { permitted = p; line = k; counts = c; outputs = o }),
  )

  -- and are alike exactly where every line that counts comes out alike
  pub agrees_alike : (x : ℕ) → Permitted h x → ((k : ℕ) → LineCounts h k → bit (run a x) k ≡ bit (run b x) k) ↔ (alike h (run a x) (run b x) ≡ true)
  agrees_alike x p = (
    lines_alike h (run a x) (run b x) (run_below h.lines a va x p.state) (run_below h.lines b vb x p.state),
    alike_lines h (run a x) (run b x),
  )

-- without marks these are the equality and the difference of document 01
module _ (n : ℕ) (a b : List Gate) (va : all_valid n a ≡ true) (vb : all_valid n b ≡ true) where
  same_run : (x : ℕ) → x < 2 ^ n → ((k : ℕ) → LineCounts (unmarked n) k → bit (run a x) k ≡ bit (run b x) k) → run a x ≡ run b x
  same_run x l f = bits_below n (run a x) (run b x) (run_below n a va x l) (run_below n b vb x l) (λ k h. f k (unmarked_line n k h))

  pub unmarked_equal : EqualFor (unmarked n) a b ↔ Equal n a b
  unmarked_equal = (
    (λ e x l. same_run x l (e x (unmarked_state n x l))),
    (λ e x p k c. ap (λ (y : ℕ). bit y k) (e x p.state)),
  )

  pub unmarked_differs : (x : ℕ) → DiffersFor (unmarked n) a b x ↔ Differs n a b x
  unmarked_differs x = (
    (λ d. record { state = d.permitted.state; outputs = λ e. d.outputs (ap (λ (y : ℕ). bit y d.line) e) }),
    (λ d.
        let p = unmarked_state n x d.state in
        let (q, e) : Permitted (unmarked n) x × (alike (unmarked n) (run a x) (run b x) ≡ false) = (p, not_held _ (λ t. d.outputs (same_run x d.state (alike_lines (unmarked n) (run a x) (run b x) t)))) in
        (differs_unlike (unmarked n) a b va vb x).1 (q, e)),
  )
