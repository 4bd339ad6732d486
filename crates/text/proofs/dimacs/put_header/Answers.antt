-- `text::dimacs::put_header` meets its contract. Assumes nothing.
use mathlib.Core.Path.{◌≡◌}
use mathlib.Core.List.{List, [], ◌∷◌, ◌++◌, append_assoc}
use Prim.Native.Nat.{ℕ}
use Rattle.circuit.specs.Text.{line_feed}
use Rattle.circuit.proofs.Promises.{written_put, put_as}
use Rattle.text.specs.Dimacs.{blank, problem_word, cnf_word, decimal, header_text}
use Rattle.text.proofs.put.Laws.{written_start, written_on}
use Rattle.text.proofs.dimacs.put_header.Goals as goal

-- `p cnf` and a blank
abbrev start : List ℕ
start = problem_word ++ (blank ∷ (cnf_word ++ (blank ∷ [])))

parts : (v m : ℕ) → ((start ++ decimal v) ++ (blank ∷ decimal m)) ++ (line_feed ∷ []) ≡ header_text v m
unfolding header_text
parts v m = simp append_assoc

pub returns : goal.returns
returns c =
    let w = written_start c.put_numbered-at.ensures c.put_numbered-at.auto.out in
    let v = written_on w c.put_numbered-at-2.ensures c.put_numbered-at-2.auto.out in
    put_as _ _ _ _ _ (parts c.args.variables c.args.clauses) (written_put _ _ _ _ (written_on v c.put.ensures c.put.auto.out))
