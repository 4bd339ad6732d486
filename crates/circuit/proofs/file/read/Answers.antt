-- `circuit::file::read` meets its contract. Assumes nothing.
use Rattle.std.proofs.Common.{◌≡◌, Err, length, sym, refl, ap, ◌∙◌, arith, rules}
use Rattle.bits.specs.Lists.{over}
use Rattle.circuit.specs.Outcome.{Outcome, served, refused, outcome_of}
use Rattle.circuit.specs.Refusal.{no_room}
use Rattle.circuit.specs.Words.{words_of}
use Rattle.circuit.specs.File.{Reading, reading, counts_of, gates_read}
use Rattle.circuit.specs.declared.file.ReadCounts.{ReadCounts}
use Rattle.circuit.proofs.lemmas.file.Laws.{read_bad, read_short, read_fits}
use Rattle.circuit.proofs.lemmas.file.marks.Steps.{Started, header_bad, header_start}
use Rattle.circuit.proofs.lemmas.file.Steps.{judged, judged_bad, judged_good, read_told}
use Rattle.circuit.proofs.file.read.Goals as goal
use Rattle.circuit.proofs.file.read.Goals.{In_ok-counts, In_ok-header}

-- the header was read
started : (c : In_ok-header) → Started c.args.text.now c.in_ok-header.header.header c.in_ok-header.header.place c.in_ok-header.header.next
started c = header_start _ _ (sym c.in_ok-header.ensures)

-- and all of the text
whole : (c : In_ok-counts) → (r : Reading) × (reading c.args.text.now ≡ served r) × (counts_of r ≡ c.in_ok-counts.counts)
whole c = judged _ _ _ _ (header_start _ _ (sym c.in_ok-header.ensures)) c.in_ok-counts.counts (sym c.in_ok-counts.ensures)

counted : (c : In_ok-counts) → length (whole c).0.gates ≡ c.in_ok-counts.counts.gates
counted c = ap (λ (x : ReadCounts). x.gates) (whole c).2

pub returns-in_err-header : goal.returns-in_err-header
returns-in_err-header c =
    let e : c.from_residual.result ≡ Err c.in_err-header.field-0.0 = search rules in
    read_told _ _ _ (outcome_of (Err c.in_err-header.field-0.0)) _ (ap outcome_of e) (read_bad _ _ _ _ (header_bad _ _ _ (sym c.in_err-header.ensures))) refl

pub judge-requires : goal.judge-requires
judge-requires c = let s = started (goal.at.judge-requires c).In_ok-header in (s.inside, s.high, s.early)

pub returns-in_err-counts : goal.returns-in_err-counts
returns-in_err-counts c =
    let e : c.from_residual-in_err-counts.result ≡ Err c.in_err-counts.field-0.0 = search rules in
    read_told _ _ _ (outcome_of (Err c.in_err-counts.field-0.0)) _ (ap outcome_of e)
    (read_bad _ _ _ _ (judged_bad _ _ _ _ (started (goal.at.returns-in_err-counts c).In_ok-header) _ _ (sym c.in_err-counts.ensures))) refl

pub returns-then-out-counts : goal.returns-then-out-counts
returns-then-out-counts c =
    let r = whole (goal.at.returns-then-out-counts c).In_ok-counts in
    read_told _ _ _ (refused no_room 0) _ refl (read_short _ _ r.0 r.1 (omega (arith, counted (goal.at.returns-then-out-counts c).In_ok-counts, c.if-out-counts.true))) refl

pub fill-requires : goal.fill-requires
fill-requires c =
    let r = whole (goal.at.fill-requires c).In_ok-counts in
    ((r.0.gates, judged_good _ _ _ _ (started (goal.at.fill-requires c).In_ok-header) r.0 r.1, counted (goal.at.fill-requires c).In_ok-counts), omega (arith, c.if-out-counts.false))

pub returns : goal.returns
returns c =
    let r = whole (goal.at.returns c).In_ok-counts in
    read_told _ _ _ (served c.in_ok-counts.counts) _ refl
    (read_fits _ _ r.0 r.1 (omega (arith, counted (goal.at.returns c).In_ok-counts, c.if-out-counts.false)) ∙ ap served r.2)
    (c.fill.ensures r.0.gates (judged_good _ _ _ _ (started (goal.at.returns c).In_ok-header) r.0 r.1) (counted (goal.at.returns c).In_ok-counts)
    ∙ ap (λ (o : Outcome Reading). over (words_of (gates_read o)) c.args.out.now) (sym r.1))
