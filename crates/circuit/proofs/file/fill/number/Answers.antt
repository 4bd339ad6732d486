-- `circuit::file::fill::number` meets its contract. Assumes nothing.
use Rattle.std.proofs.Common.{◌+◌, ◌<◌, ◌≤◌, get_or, length, refl, arith}
use Rattle.circuit.proofs.lemmas.file.fill.Laws.{digits_there, number_low, number_one, number_two}
use Rattle.circuit.proofs.file.fill.number.Goals as goal
use Rattle.circuit.proofs.file.fill.number.Goals.{Else-b-lt48, Start}

-- both bytes are inside the text
room : (c : Start) → c.args.at + 1 < length c.args.text.now
room c = (digits_there _ _ _ c.requires.1).1

-- the first is a digit, and so is the second where it is not below them
low : (c : Start) → (48 ≤ get_or c.args.text.now c.args.at 0) × (get_or c.args.text.now c.args.at 0 ≤ 57)
low c = number_low _ _ _ c.requires.1 _ _ refl refl

high : (c : Else-b-lt48) → get_or c.args.text.now (c.args.at + 1) 0 ≤ 57
high c = (number_two _ _ _ c.requires.1 _ _ refl refl c.if-b-lt48.false).0

pub bounds-text-at-2 : goal.bounds-text-at-2
bounds-text-at-2 c = room (goal.at.bounds-text-at-2 c).Start

pub overflow_sub-result : goal.overflow_sub-result
overflow_sub-result c = (low (goal.at.overflow_sub-result c).Start).0

pub returns-then-b-lt48 : goal.returns-then-b-lt48
returns-then-b-lt48 c =
    λ k n. number_one _ _ k n _ _ refl refl c.if-b-lt48.true

pub overflow_sub-result-2 : goal.overflow_sub-result-2
overflow_sub-result-2 c = (low (goal.at.overflow_sub-result-2 c).Start).0

pub overflow_mul-result : goal.overflow_mul-result
overflow_mul-result c = omega (arith, low (goal.at.overflow_mul-result c).Start)

pub overflow_add-result-2 : goal.overflow_add-result-2
overflow_add-result-2 c = omega (arith, low (goal.at.overflow_add-result-2 c).Start, high (goal.at.overflow_add-result-2 c).Else-b-lt48)

pub returns : goal.returns
returns c =
    λ k n. (number_two _ _ k n _ _ refl refl c.if-b-lt48.false).1
