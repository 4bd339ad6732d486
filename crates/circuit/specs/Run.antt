-- A cascade on a state: the first gate acts first.
use Rattle.std.specs.Prelude.{◌≡◌, ℕ, ◌^◌, ◌<◌, List, length, nat_le, nat_lt}
use Rattle.bits.specs.Digits.{bit}
use Rattle.bits.specs.Lists.{fold}
use Rattle.circuit.specs.declared.gate.Gate.{Gate}
use Rattle.circuit.specs.declared.header.Header.{Header}
use Rattle.circuit.specs.Gate.{max_gates, apply, toggled}
use Rattle.circuit.specs.Header.{Permitted, LineCounts}
use Rattle.circuit.specs.Outcome.{Outcome, served, demand, and_then}
use Rattle.circuit.specs.Refusal.{bad_line_count, too_many_gates, bad_state}
use Rattle.circuit.specs.Words.{gates_of, line_count_good, valid_from, check_outcome}

-- the output state
abbrev pub run : List Gate → ℕ → ℕ
run gates state = fold apply gates state

-- the same for gates that were tested
abbrev pub run_tested : List Gate → ℕ → ℕ
run_tested gates state = fold toggled gates state

-- two cascades on n lines give the same output on every state
abbrev pub Equal : ℕ → List Gate → List Gate → Type 0
Equal n a b = (x : ℕ) → x < 2 ^ n → run a x ≡ run b x

-- x is a state of n lines on which two cascades give different outputs
pub record Differs (n : ℕ) (a b : List Gate) (x : ℕ) : Type 0 where
  pub state : x < 2 ^ n
  pub outputs : run a x ≡ run b x → ⊥

-- by document 02, of two cascades with this header: on each state that honours the constants, every line that counts comes out alike
abbrev pub EqualFor : Header → List Gate → List Gate → Type 0
EqualFor h a b = (x : ℕ) → Permitted h x → (k : ℕ) → LineCounts h k → bit (run a x) k ≡ bit (run b x) k

-- x is a state that honours the constants, and some line that counts comes out differently
pub record DiffersFor (h : Header) (a b : List Gate) (x : ℕ) : Type 0 where
  pub permitted : Permitted h x
  pub line : ℕ
  pub counts : LineCounts h line
  pub outputs : bit (run a x) line ≡ bit (run b x) line → ⊥

-- 2, 11, 6, 7, 9
unfoldable pub run_outcome : ℕ → List ℕ → ℕ → Outcome ℕ
run_outcome n ws s =
    and_then (check_outcome n ws max_gates) (λ k.
    demand (nat_lt s (2 ^ n)) bad_state 0 (served (run (gates_of ws) s)))

-- the same of a list of gate records: 2, 6, 7, 9
unfoldable pub records_outcome : ℕ → List Gate → ℕ → Outcome ℕ
records_outcome n gates s =
    demand (line_count_good n) bad_line_count 0
    (demand (nat_le (length gates) max_gates) too_many_gates 0
    (and_then (valid_from n 0 gates) (λ k.
    demand (nat_lt s (2 ^ n)) bad_state 0 (served (run gates s)))))
