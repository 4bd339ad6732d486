-- `text::put::put_three` meets its contract. Assumes nothing.
use mathlib.Core.Path.{◌≡◌}
use mathlib.Core.List.{List, [], ◌∷◌, ◌++◌, append_assoc}
use Prim.Native.Nat.{ℕ}
use Rattle.circuit.specs.Text.{tab, line_feed}
use Rattle.circuit.proofs.Promises.{written_put, put_as}
use Rattle.text.specs.Dimacs.{decimal}
use Rattle.text.specs.FileOutcome.{numbers_text}
use Rattle.text.proofs.put.Laws.{written_start, written_on}
use Rattle.text.proofs.put.put_three.Goals as goal

parts : (word : List ℕ) (a b c : ℕ) → (((word ++ decimal a) ++ (tab ∷ decimal b)) ++ (tab ∷ decimal c)) ++ (line_feed ∷ []) ≡ word ++ numbers_text a b c
parts word a b c = simp append_assoc

pub returns : goal.returns
returns c =
    let w = written_start c.put_numbered-at.ensures c.put_numbered-at.auto.out in
    let v = written_on w c.put_numbered-at-2.ensures c.put_numbered-at-2.auto.out in
    let u = written_on v c.put_numbered-at-3.ensures c.put_numbered-at-3.auto.out in
    put_as _ _ _ _ _ (parts c.args.word.now c.args.a c.args.b c.args.c) (written_put _ _ _ _ (written_on u c.put.ensures c.put.auto.out))
