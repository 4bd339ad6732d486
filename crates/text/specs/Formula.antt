-- Clauses over so many variables, as they are emitted for gates and for two cascades.
use Rattle.std.specs.Prelude.{List, ℕ}
use Rattle.circuit.specs.declared.gate.Gate.{Gate}
use Rattle.circuit.specs.declared.header.Header.{Header}
use Rattle.checking.specs.Clauses.{Clause, clauses_of, variables_of}
use Rattle.checking.specs.Pair.{pair_clauses, pair_variables}

pub record Formula : Type 0 where
  pub variables : ℕ
  pub clauses : List Clause

-- that of gates on n lines
abbrev pub formula_of : ℕ → List Gate → Formula
formula_of n gs = record { variables = variables_of n gs; clauses = clauses_of n gs }

-- that of two cascades with the header h
abbrev pub pair_formula : Header → List Gate → List Gate → Formula
pair_formula h a b = record { variables = pair_variables h a b; clauses = pair_clauses h a b }
