-- `circuit::file::put::put_gate_text` meets its contract. Assumes nothing.
use Rattle.std.proofs.Common.{ℕ, List, ◌∷◌, ◌++◌, ap, length, arith}
use Rattle.circuit.specs.Text.{tab, number_text}
use Rattle.circuit.proofs.lemmas.file.put.Laws.{put_then, put_as, rest_length, text_length, same_controls}
use Rattle.circuit.proofs.file.put.put_gate_text.Goals as goal

pub put_controls-requires : goal.put_controls-requires
put_controls-requires c =
    omega (arith, text_length c.args.g, ap length (same_controls c.args.g), rest_length c.put_numbered-at.new.out c.put_numbered-at.result (omega (arith, text_length c.args.g, c.put_numbered-at.ensures.count)))

pub returns : goal.returns
returns c =
    put_as _ _ _ _ _ (ap (λ (l : List ℕ). 103 ∷ tab ∷ (number_text c.args.g.target ++ l)) (same_controls c.args.g))
    (put_then _ _ _ _ c.put_numbered-at.ensures c.put_numbered-at.auto.out _ _ _ (omega (arith, text_length c.args.g, c.put_numbered-at.ensures.count)) c.put_controls.ensures c.put_controls.auto.out)
