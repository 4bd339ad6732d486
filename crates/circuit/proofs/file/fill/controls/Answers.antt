-- `circuit::file::fill::controls` meets its contract.
use Rattle.std.proofs.Common.{ℕ, ◌^◌, Bool, cond, not, List, ap, ◌∙◌, ap₂, arith}
use lib.Bits.{bit_or}
use Rattle.circuit.specs.declared.gate.Gate.{Gate}
use Rattle.circuit.specs.Gate.{Control}
use Rattle.circuit.specs.declared.file.scan.Numeral.{Numeral}
use Rattle.circuit.specs.private.Fill.{ControlsAt}
use Rattle.circuit.proofs.lemmas.file.fill.Laws.{passing_start, passing_inside, Next, passing_next, passing_done, sign_told}
use Rattle.circuit.proofs.file.fill.controls.Goals as goal
use Rattle.circuit.proofs.file.fill.controls.Goals.{In-loop-at}

pub loop-at-init : goal.loop-at-init
loop-at-init c = λ cs s. passing_start _ _ cs s

pub bounds-text-at : goal.bounds-text-at
bounds-text-at c =
    passing_inside _ _ _ _ _ _ (c.loop-at.invariant c.requires.0 c.requires.1)

-- the control at the position
next : (t : In-loop-at) (cs : List Control) (s : ControlsAt t.args.text.now t.args.first cs)
    → Next _ _ cs _ _ _ (t.loop-at.invariant cs s)
next t cs s = passing_next _ _ cs _ _ _ (t.loop-at.invariant cs s) t.loop-at-test.true

here : (t : In-loop-at) → Next _ _ _ _ _ _ (t.loop-at.invariant t.requires.0 t.requires.1)
here t = next t t.requires.0 t.requires.1

pub bounds-text-at-in-loop-at : goal.bounds-text-at-in-loop-at
bounds-text-at-in-loop-at c = (here (goal.at.bounds-text-at-in-loop-at c).In-loop-at).inside

pub number-k-requires : goal.number-k-requires
number-k-requires c = let n = here (goal.at.number-k-requires c).In-loop-at in (n.control.line, n.line)

pub joined-positive-requires : goal.joined-positive-requires
joined-positive-requires c =
    let n = here (goal.at.joined-positive-requires c).In-loop-at in
    omega (arith, ap (λ (x : Numeral). x.value) (c.number-k.ensures n.control.line n.line), n.below)

pub joined-negative-requires : goal.joined-negative-requires
joined-negative-requires c =
    let n = here (goal.at.joined-negative-requires c).In-loop-at in
    omega (arith, ap (λ (x : Numeral). x.value) (c.number-k.ensures n.control.line n.line), n.below)

pub loop-at-smaller : goal.loop-at-smaller
loop-at-smaller c =
    let n = here (goal.at.loop-at-smaller c).In-loop-at in
    omega (arith, ap (λ (x : Numeral). x.next) (c.number-k.ensures n.control.line n.line), n.onward)

pub loop-at-preserved : goal.loop-at-preserved
loop-at-preserved c =
    λ cs s.
    let n = next (goal.at.loop-at-preserved c).In-loop-at cs s in
    let e = c.number-k.ensures n.control.line n.line in
    let k = ap (λ (x : Numeral). x.value) e in
    let q = sign_told _ n.control.positive n.signed in
    n.step _ _ _ (ap (λ (x : Numeral). x.next) e)
    (c.joined-positive.ensures ∙ ap₂ (λ (x : ℕ) (b : Bool). bit_or c.loop-at.positive (cond b (2 ^ x) 0)) k q)
    (c.joined-negative.ensures ∙ ap₂ (λ (x : ℕ) (b : Bool). bit_or c.loop-at.negative (cond (not b) (2 ^ x) 0)) k q)

pub overflow_add-result : goal.overflow_add-result
overflow_add-result c =
    omega (arith, passing_inside _ _ _ _ _ _ (c.loop-at.invariant c.requires.0 c.requires.1))

pub returns : goal.returns
returns c =
    λ cs s.
    let (g, e) = passing_done _ _ cs _ _ _ (c.loop-at.invariant cs s) c.loop-at-test.false _ in
    ap₂ (λ (x : Gate) (k : ℕ). record { gate = x; next = k }) g e
