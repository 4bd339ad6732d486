-- An answer and a buffer that are those of a clause list, and what is read back from them. Assumes nothing.
use Rattle.std.proofs.Common.{◌≡◌, ℕ, ◌≤◌, leb, List, length, take, drop, ℤ, sym, ap, ◌∙◌, le-leb}
use Rattle.bits.specs.Lists.{over}
use Rattle.circuit.specs.Outcome.{Outcome, served, demand, written}
use Rattle.circuit.specs.Refusal.{no_room}
use Rattle.circuit.proofs.Promises.{demand_met}
use Rattle.checking.specs.declared.clauses.Totals.{Totals}
use Rattle.checking.specs.Clauses.{Clause}
use Rattle.checking.specs.Stored.{stored, clauses_in, clauses_read}
use Rattle.checking.proofs.lemmas.clauses.Reading.{read_back}
use Rattle.checking.proofs.lemmas.clauses.Sums.{sizes_in}

pub served_same : (t u : Totals) → served t ≡ served u → t ≡ u
served_same t u e = cc

read_same : (xs ys : List Clause) → clauses_read xs ≡ clauses_read ys → xs ≡ ys
read_same xs ys e = cc

module _ (variables : ℕ) (cs : List Clause) (out : List ℤ) where
  pub record Listed (answer : Outcome Totals) (buffer : List ℤ) : Type 0 where
    pub counts : answer ≡ served (sizes_in variables cs)
    pub words : buffer ≡ over (stored cs) out

  module _ (answer : Outcome Totals) (buffer : List ℤ) (l : Listed answer buffer) where
    pub are_read : clauses_in (take (length (stored cs)) buffer) ≡ clauses_read cs
    are_read = ap (λ (ws : List ℤ). clauses_in (take (length (stored cs)) ws)) l.words ∙ read_back cs (drop (length (stored cs)) out)

    -- and nothing else is read back from them
    pub only_read : (t : Totals) (ds : List Clause) → answer ≡ served t → clauses_in (take t.words buffer) ≡ clauses_read ds → (t.variables ≡ variables) × (ds ≡ cs)
    only_read t ds e f =
        let same : t ≡ sizes_in variables cs = served_same _ _ (sym e ∙ l.counts) in (
          ap (λ (u : Totals). u.variables) same,
          read_same _ _ (sym f ∙ ap (λ (u : Totals). clauses_in (take u.words buffer)) same ∙ are_read),
        )

  -- an emitter of the list: where there is room, it serves with its sizes
  abbrev list_answer : Outcome Totals
  list_answer = demand (leb (length (stored cs)) (length out)) no_room 0 (served (sizes_in variables cs))

  pub list_listed : length (stored cs) ≤ length out → Listed list_answer (written list_answer (stored cs) out)
  list_listed room =
      let e : list_answer ≡ served (sizes_in variables cs) = demand_met _ _ _ _ (le-leb _ (length out) room) in
      record { counts = e; words = ap (λ (o : Outcome Totals). written o (stored cs) out) e }
