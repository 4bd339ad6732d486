-- `circuit::file::write` meets its contract. Assumes nothing.
use Rattle.std.proofs.Common.{◌≡◌, Err, length, sym, refl, ap, arith, rules}
use Rattle.circuit.specs.Gate.{max_lines, max_gates}
use Rattle.circuit.specs.Outcome.{served, refused, outcome_of}
use Rattle.circuit.specs.Refusal.{no_room}
use Rattle.circuit.specs.Words.{gates_of, Headed}
use Rattle.circuit.specs.Text.{text_of}
use Rattle.circuit.proofs.lemmas.words.Gates.{valid_all_more}
use Rattle.circuit.proofs.lemmas.header.Tests.{headed_served}
use Rattle.circuit.proofs.lemmas.file.Writes.{write_refused, write_short, write_made, write_told}
use Rattle.circuit.proofs.file.write.Goals as goal
use Rattle.circuit.proofs.file.write.Goals.{In_ok-check_headed}

-- the words are a cascade's
cascade : (c : In_ok-check_headed)
    → Headed c.args.h c.args.words.now max_gates c.in_ok-check_headed.field-0
cascade c = headed_served _ _ _ _ (sym c.in_ok-check_headed.ensures)

pub returns-in_err-check_headed : goal.returns-in_err-check_headed
returns-in_err-check_headed c =
    let e : c.from_residual.result ≡ Err c.in_err-check_headed.field-0.0 = search rules in
    write_told _ _ _ _ (outcome_of (Err c.in_err-check_headed.field-0.0)) _ (ap outcome_of e) (write_refused _ _ _ _ _ (sym c.in_err-check_headed.ensures)) refl

pub text_size-size-requires : goal.text_size-size-requires
text_size-size-requires c = let h = cascade (goal.at.text_size-size-requires c).In_ok-check_headed in
    let k = h.cascade in
    (omega (arith, k.size, k.few), k.lines_high, h.marks)

pub returns-then-out-size : goal.returns-then-out-size
returns-then-out-size c =
    write_told _ _ _ _ (refused no_room 0) _ refl
    (write_short c.args.h c.args.words.now (length c.args.out.now) _ (sym c.in_ok-check_headed.ensures) (omega (arith, c.text_size-size.ensures, c.if-out-size.true))) refl

pub put_text-requires : goal.put_text-requires
put_text-requires c =
    let h = cascade (goal.at.put_text-requires c).In_ok-check_headed in
    let k = h.cascade in
    (k.lines_high, h.marks, valid_all_more _ max_lines _ k.lines_high k.gates, omega (arith, c.text_size-size.ensures, c.if-out-size.false))

pub returns : goal.returns
returns c =
    write_told _ _ _ _ (served (length (text_of c.args.h (gates_of c.args.words.now)))) _ (ap served c.put_text.ensures.count)
    (write_made c.args.h c.args.words.now (length c.args.out.now) _ (sym c.in_ok-check_headed.ensures) (omega (arith, c.text_size-size.ensures, c.if-out-size.false))) c.put_text.ensures.buffer
