-- What gates add to the totals of a clause list, and what the lines add to those.
use Rattle.std.specs.Prelude.{◌≡◌, ℕ, ◌+◌, ◌-◌, ◌*◌, ◌^◌, ◌≤◌, true, List, bit_and, bit_or, count_ones}
use Rattle.circuit.specs.declared.gate.Gate.{Gate}
use Rattle.circuit.specs.declared.header.Header.{Header}
use Rattle.circuit.specs.Gate.{max_lines, max_gates, max_miter_gates}
use Rattle.circuit.specs.Header.{marks_good}
use Rattle.checking.specs.declared.clauses.Totals.{Totals}
use Rattle.checking.specs.declared.sums.Sums.{Sums}
use Rattle.checking.specs.Clauses.{targeted}
use Rattle.checking.specs.Sizes.{totals, added, gates_sizes}
use Rattle.checking.specs.Faults.{mask_where}

-- the sums over gates, and the mask of the lines below n that they target
abbrev pub sums_of : ℕ → List Gate → Sums
sums_of n gs = record { totals = gates_sizes gs; targets = mask_where n (targeted gs) }

-- the inputs, the constants, the gates, the lines that count, of which gates target `hit`, and the last OR
abbrev pub list_totals : (n constants counted hit : ℕ) → Totals → Totals
list_totals n constants counted hit gates =
    added (totals n 0 0)
    (added (totals 0 constants (3 * constants))
    (added gates
    (added (totals counted counted (3 * counted + 2 * hit)) (totals 0 1 (counted + 2)))))

-- no more than gates on at most 64 lines add
pub record Small (gates : ℕ) (t : Totals) : Type 0 where
  pub few_variables : t.variables ≤ 2 * gates
  pub few_clauses : t.clauses ≤ 66 * gates
  pub few_words : t.words ≤ 328 * gates

pub record Few (n constants counted hit : ℕ) (gates : Totals) : Type 0 where
  pub lines : n ≤ max_lines
  pub few_constants : constants ≤ max_lines
  pub few_counted : counted ≤ max_lines
  pub few_hit : hit ≤ max_lines
  pub small : Small max_miter_gates gates

-- a header with good marks, and sums over gates of two cascades
pub record PairSmall (h : Header) (a b : Sums) : Type 0 where
  pub lines : h.lines ≤ max_lines
  pub marks : marks_good h ≡ true
  pub first : Small max_gates a.totals
  pub second : Small max_gates b.totals

-- the totals of a pair's list, by the sums over the gates of each
abbrev pub pair_totals : Header → Sums → Sums → Totals
pair_totals h a b =
    list_totals h.lines (count_ones h.constants) (h.lines - count_ones h.junk) (count_ones (bit_and (bit_or a.targets b.targets) (2 ^ max_lines - 1 - h.junk)))
    (added a.totals b.totals)
