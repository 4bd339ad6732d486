-- What clauses in a buffer say of two cascades with the same header. No definition of the clause list stands below it.
use Rattle.std.specs.Prelude.{◌≡◌, ◌↔◌, ℕ, Bool, List, length, take, ℤ}
use Rattle.circuit.specs.declared.gate.Gate.{Gate}
use Rattle.circuit.specs.declared.header.Header.{Header}
use Rattle.circuit.specs.Gate.{max_gates}
use Rattle.circuit.specs.Outcome.{Outcome, served}
use Rattle.circuit.specs.Words.{gates_of, Headed}
use Rattle.circuit.specs.Run.{EqualFor, DiffersFor}
use Rattle.checking.specs.declared.clauses.Totals.{Totals}
use Rattle.checking.specs.Clauses.{Clause}
use Rattle.checking.specs.Stored.{clauses_in, clauses_read}
use Rattle.checking.specs.Satisfaction.{Satisfying, spelled, ClausesWithin}

-- the clauses cs over V variables tell on which permitted states a line that counts comes out differently
pub record TellsFor (h : Header) (variables : ℕ) (cs : List Clause) (a b : List Gate) : Type 0 where
  -- the cascades are equal exactly when no assignment satisfies the clauses
  pub equal : EqualFor h a b ↔ ((σ : List Bool) → Satisfying variables cs σ → ⊥)
  -- each state on which they differ is spelled by exactly one satisfying assignment
  pub differing : (x : ℕ) → DiffersFor h a b x
      → (σ : List Bool) × Satisfying variables cs σ × (spelled h.lines σ ≡ x) × ((τ : List Bool) → Satisfying variables cs τ → spelled h.lines τ ≡ x → τ ≡ σ)
  -- no other state is spelled by any
  pub no_other : (σ : List Bool) → Satisfying variables cs σ → DiffersFor h a b (spelled h.lines σ)
  -- no literal is 0 or beyond V
  pub within : ClausesWithin variables cs

-- the words that an answer counts, from the buffer's start, are those of clauses, and these tell on which states the cascades with the words a and b differ
pub record ToldFor (h : Header) (a b : List ℕ) (totals : Totals) (buffer : List ℤ) : Type 0 where
  pub clauses : List Clause
  pub are_read : clauses_in (take totals.words buffer) ≡ clauses_read clauses
  pub counted : length clauses ≡ totals.clauses
  pub tells : TellsFor h totals.variables clauses (gates_of a) (gates_of b)

-- the same of headers and words that were judged: they are those of cascades with the same header, of no more gates each than a cascade may have
pub record PairToldOf (ha : Header) (a : List ℕ) (hb : Header) (b : List ℕ) (totals : Totals) (buffer : List ℤ) : Type 0 where
  pub first : ℕ
  pub first_good : Headed ha a max_gates first
  pub second : ℕ
  pub second_good : Headed hb b max_gates second
  pub header : ha ≡ hb
  pub told : ToldFor ha a b totals buffer

-- where a call is served, the clauses read back from its buffer tell on which states the two cascades differ
abbrev pub PairServedTells : Header → List ℕ → Header → List ℕ → Outcome Totals → List ℤ → Type 0
PairServedTells ha a hb b answer buffer = (totals : Totals) → answer ≡ served totals → PairToldOf ha a hb b totals buffer

-- what an emission with this answer and this final buffer says of two cascades with the header h: it is served, and its clauses tell on which states they differ
pub record PairEmitted (h : Header) (a b : List ℕ) (answer : Outcome Totals) (buffer : List ℤ) : Type 0 where
  pub totals : Totals
  pub is_served : answer ≡ served totals
  pub told : ToldFor h a b totals buffer
