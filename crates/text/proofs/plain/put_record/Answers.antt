-- `text::plain::put_record` meets its contract. Assumes nothing.
use mathlib.Core.Path.{◌≡◌, sym, ap, ap₂, ◌∙◌}
use mathlib.Core.List.{List, [], ◌∷◌}
use lib.IntN.{ℤ}
use lib.ListN.{length}
use mir.Val.{to_z, of_z}
use Rattle.circuit.proofs.Promises.{put_as}
use Rattle.checking.specs.Stored.{word_width}
use Rattle.checking.specs.Clauses.{Clause, XOR}
use Rattle.text.specs.Dimacs.{clauses_text}
use Rattle.text.specs.Plain.{plain_clause}
use Rattle.text.specs.private.Words.{plain_record}
use Rattle.text.proofs.plain.Laws.{xor_kind, or_record, or_text, or_long, at_place, Two, Three, two_literals, three_literals, small_word, small_size}
use borrow.Author.Rules.{rules}
use Rattle.text.proofs.plain.put_record.Goals as goal

-- the clauses of the literals that were passed on
two_passed : (z : ℤ) (ls : List ℤ) → Two z ls → plain_clause (XOR (to_z word_width (of_z word_width (at_place ls 0)) ∷ to_z word_width (of_z word_width (at_place ls 1)) ∷ [])) ≡ plain_record z ls
two_passed z ls t = ap₂ (λ (x y : ℤ). plain_clause (XOR (x ∷ y ∷ []))) (small_word _ t.first) (small_word _ t.second) ∙ sym t.record_is

three_passed : (z : ℤ) (ls : List ℤ) → Three z ls
    → plain_clause (XOR (to_z word_width (of_z word_width (at_place ls 0)) ∷ to_z word_width (of_z word_width (at_place ls 1)) ∷ to_z word_width (of_z word_width (at_place ls 2)) ∷ [])) ≡ plain_record z ls
three_passed z ls t =
    ap₂ (λ (x : ℤ) (l : List ℤ). plain_clause (XOR (x ∷ l))) (small_word _ t.first) (ap₂ (λ (x y : ℤ). x ∷ y ∷ []) (small_word _ t.second) (small_word _ t.third))
    ∙ sym t.record_is

pub put_pair-requires : goal.put_pair-requires
put_pair-requires c =
    let t = two_literals c.args.kind c.args.literals.now c.requires.plainable (xor_kind c.args.kind c.ranges.kind c.if-kind-eq1.true) c.if-literals-eq2.true in
    let e = ap (λ (cs : List Clause). length (clauses_text cs)) (two_passed c.args.kind c.args.literals.now t) in
    record {
      literals_fit = (small_size (at_place c.args.literals.now 0) t.first, small_size (at_place c.args.literals.now 1) t.second);
      out_room = search rules;
    }

pub returns-then-literals-eq2 : goal.returns-then-literals-eq2
returns-then-literals-eq2 c = put_as _ _ _ _ _ (ap clauses_text (two_passed c.args.kind c.args.literals.now (two_literals c.args.kind c.args.literals.now c.requires.plainable (xor_kind c.args.kind c.ranges.kind c.if-kind-eq1.true) c.if-literals-eq2.true))) c.put_pair.ensures

pub bounds-literals-0-then-kind-eq1 : goal.bounds-literals-0-then-kind-eq1
bounds-literals-0-then-kind-eq1 c = let h = (three_literals c.args.kind c.args.literals.now c.requires.plainable (xor_kind c.args.kind c.ranges.kind c.if-kind-eq1.true) c.if-literals-eq2.false).long in search rules

pub bounds-literals-1-then-kind-eq1 : goal.bounds-literals-1-then-kind-eq1
bounds-literals-1-then-kind-eq1 c = let h = (three_literals c.args.kind c.args.literals.now c.requires.plainable (xor_kind c.args.kind c.ranges.kind c.if-kind-eq1.true) c.if-literals-eq2.false).long in search rules

pub bounds-literals-2 : goal.bounds-literals-2
bounds-literals-2 c = let h = (three_literals c.args.kind c.args.literals.now c.requires.plainable (xor_kind c.args.kind c.ranges.kind c.if-kind-eq1.true) c.if-literals-eq2.false).long in search rules

pub put_triple-requires : goal.put_triple-requires
put_triple-requires c =
    let t = three_literals c.args.kind c.args.literals.now c.requires.plainable (xor_kind c.args.kind c.ranges.kind c.if-kind-eq1.true) c.if-literals-eq2.false in
    let e = ap (λ (cs : List Clause). length (clauses_text cs)) (three_passed c.args.kind c.args.literals.now t) in
    record {
      literals_fit = (small_size (at_place c.args.literals.now 0) t.first, small_size (at_place c.args.literals.now 1) t.second, small_size (at_place c.args.literals.now 2) t.third);
      out_room = search rules;
    }

pub returns-then-kind-eq1 : goal.returns-then-kind-eq1
returns-then-kind-eq1 c = put_as _ _ _ _ _ (ap clauses_text (three_passed c.args.kind c.args.literals.now (three_literals c.args.kind c.args.literals.now c.requires.plainable (xor_kind c.args.kind c.ranges.kind c.if-kind-eq1.true) c.if-literals-eq2.false))) c.put_triple.ensures

pub put_closed-requires : goal.put_closed-requires
put_closed-requires c =
    let e = ap (λ (cs : List Clause). length (clauses_text cs)) (or_record c.args.kind c.args.literals.now c.if-kind-eq1.false) in
    let l = or_long c.args.literals.now in
    search rules

pub returns : goal.returns
returns c =
    put_as _ _ _ _ _ (sym (ap clauses_text (or_record c.args.kind c.args.literals.now c.if-kind-eq1.false) ∙ or_text c.args.literals.now)) c.put_closed.ensures
