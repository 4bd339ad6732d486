-- `text::list::list` meets its contract. Assumes nothing.
use Rattle.std.proofs.Common.{◌≡◌, ◌≤◌, ◌∙◌, ℕ, length, drop, sym, refl, ap, rules}
use Rattle.std.proofs.lemmas.Result.{err_from_is_err_and}
use Rattle.bits.proofs.Lists.{rest_lent}
use Rattle.circuit.specs.declared.refusal.Refusal.TheVariants.{NoRoom}
use Rattle.circuit.specs.Outcome.{served, map_served}
use Rattle.circuit.specs.Refusal.{no_room}
use Rattle.circuit.specs.Words.{gates_of}
use Rattle.text.specs.declared.refused.File.TheVariants.{Both}
use Rattle.text.specs.private.Files.{reading_of, whole_of}
use Rattle.text.specs.BytesTell.{max_input_gates}
use Rattle.text.specs.WholeFile.{file_within, whole_file}
use Rattle.text.proofs.FileOutcome.{said}
use Rattle.text.proofs.WholeFile.{taken_within}
use Rattle.text.proofs.list.Laws.{says_as, says_refusal, says_file, input_long, first_bad, first_good, verdict_refused, verdict_served}
use Rattle.text.proofs.list.list.Goals as goal
use Rattle.text.proofs.list.list.Goals.{In_ok-first}

-- the first file was read
first : (c : In_ok-first) → file_within max_input_gates c.args.input.now ≡ served (reading_of c.in_ok-first.first)
first c = sym c.read.ensures ∙ ap (map_served reading_of) (said 1 _ _ c.in_ok-first.ensures)

inside : (c : In_ok-first) → c.in_ok-first.first.taken ≤ length c.args.input.now
inside c = taken_within max_input_gates _ _ (sym c.read.ensures ∙ ap (map_served reading_of) (said 1 _ _ c.in_ok-first.ensures))

pub returns-then-input-gt-MAX_INPUT : goal.returns-then-input-gt-MAX_INPUT
returns-then-input-gt-MAX_INPUT c =
    rw c.both.ensures (says_refusal {A = ℕ} (record { why = NoRoom; file = Both }) c.args.clauses.now _ no_room 0 0 (input_long _ c.if-input-gt-MAX_INPUT.true) refl refl)

pub returns-in_err-first : goal.returns-in_err-first
returns-in_err-first c =
    let p = err_from_is_err_and c.from_residual.result c.from_residual.ensures.1 in
    rw (p.1, p.2) (says_file c.in_err-first.field-0.0 1 _ c.args.clauses.now _ c.in_err-first.ensures (λ number place e. first_bad _ c.if-input-gt-MAX_INPUT.false number place (sym c.read.ensures ∙ ap (map_served reading_of) e)))

pub slice_bounds-read-count : goal.slice_bounds-read-count
slice_bounds-read-count c = inside (goal.at.slice_bounds-read-count c).In_ok-first

pub slice_bounds-read-start : goal.slice_bounds-read-start
slice_bounds-read-start c = let h = inside (goal.at.slice_bounds-read-start c).In_ok-first in search rules

pub returns-in_err-second : goal.returns-in_err-second
returns-in_err-second c =
    let p = err_from_is_err_and c.from_residual-in_err-second.result c.from_residual-in_err-second.ensures.1 in
    let f = c.in_ok-first.first in
    let rest = rest_lent c.args.input.now f.taken in
    rw (p.1, p.2) (says_file c.in_err-second.field-0.0 2 _ c.args.clauses.now _ c.in_err-second.ensures (λ number place e.
    first_good _ c.if-input-gt-MAX_INPUT.false _ (first (goal.at.returns-in_err-second c).In_ok-first)
    ∙ verdict_refused f.cascade.header (gates_of f.cascade.words.now) (drop f.taken c.args.input.now) number place
    (ap (whole_file max_input_gates) (sym rest) ∙ sym c.read-2.ensures ∙ ap (map_served (whole_of _)) e)))

pub returns : goal.returns
returns c =
    let f = c.in_ok-first.first in
    let rest = rest_lent c.args.input.now f.taken in
    says_as _ _ _ _ (first_good _ c.if-input-gt-MAX_INPUT.false _ (first (goal.at.returns c).In_ok-first)
    ∙ verdict_served f.cascade.header (gates_of f.cascade.words.now) (drop f.taken c.args.input.now) (whole_of _ c.in_ok-second.second)
    (ap (whole_file max_input_gates) (sym rest) ∙ sym c.read-2.ensures ∙ ap (map_served (whole_of _)) (said 2 _ _ c.in_ok-second.ensures))) c.list_pair.ensures
