-- `text::plain::record_size` meets its contract. Assumes nothing.
use mathlib.Core.Path.{sym, ap, ◌∙◌}
use mathlib.Core.List.{List}
use native.Mathlib.Omega.{arith}
use lib.ListN.{length}
use Rattle.checking.specs.Clauses.{Clause}
use Rattle.text.specs.Dimacs.{clauses_text}
use Rattle.text.proofs.plain.Laws.{xor_kind, or_record, or_text, at_place, two_literals, three_literals, some_literals, first_literals, small_size, twice_is, twice_few, pair_long, triple_long}
use borrow.Author.Rules.{rules}
use Rattle.text.proofs.plain.record_size.Goals as goal

pub bounds-literals-0 : goal.bounds-literals-0
bounds-literals-0 c = omega (arith, some_literals c.args.kind c.args.literals.now c.requires (xor_kind c.args.kind c.ranges.kind c.if-kind-eq1.true))

pub both_size-requires : goal.both_size-requires
both_size-requires c = small_size (at_place c.args.literals.now 0) (first_literals c.args.kind c.args.literals.now c.requires (xor_kind c.args.kind c.ranges.kind c.if-kind-eq1.true)).0

pub bounds-literals-1 : goal.bounds-literals-1
bounds-literals-1 c = omega (arith, some_literals c.args.kind c.args.literals.now c.requires (xor_kind c.args.kind c.ranges.kind c.if-kind-eq1.true))

pub both_size-requires-then-kind-eq1 : goal.both_size-requires-then-kind-eq1
both_size-requires-then-kind-eq1 c = small_size (at_place c.args.literals.now 1) (first_literals c.args.kind c.args.literals.now c.requires (xor_kind c.args.kind c.ranges.kind c.if-kind-eq1.true)).1

pub overflow_add-two : goal.overflow_add-two
overflow_add-two c =
    let (f, g) = first_literals c.args.kind c.args.literals.now c.requires (xor_kind c.args.kind c.ranges.kind c.if-kind-eq1.true) in
    omega (arith, twice_is (at_place c.args.literals.now 0) _ f c.both_size.ensures, twice_is (at_place c.args.literals.now 1) _ g c.both_size-then-kind-eq1.ensures, twice_few (at_place c.args.literals.now 0) f, twice_few (at_place c.args.literals.now 1) g)

pub overflow_add-result : goal.overflow_add-result
overflow_add-result c =
    let (f, g) = first_literals c.args.kind c.args.literals.now c.requires (xor_kind c.args.kind c.ranges.kind c.if-kind-eq1.true) in
    omega (arith, twice_is (at_place c.args.literals.now 0) _ f c.both_size.ensures, twice_is (at_place c.args.literals.now 1) _ g c.both_size-then-kind-eq1.ensures, twice_few (at_place c.args.literals.now 0) f, twice_few (at_place c.args.literals.now 1) g)

pub returns-then-literals-eq2 : goal.returns-then-literals-eq2
returns-then-literals-eq2 c =
    let t = two_literals c.args.kind c.args.literals.now c.requires (xor_kind c.args.kind c.ranges.kind c.if-kind-eq1.true) c.if-literals-eq2.true in
    omega (arith, twice_is (at_place c.args.literals.now 0) _ t.first c.both_size.ensures, twice_is (at_place c.args.literals.now 1) _ t.second c.both_size-then-kind-eq1.ensures, ap (λ (cs : List Clause). length (clauses_text cs)) t.record_is, pair_long (at_place c.args.literals.now 0) (at_place c.args.literals.now 1))

pub bounds-literals-2 : goal.bounds-literals-2
bounds-literals-2 c = let h = (three_literals c.args.kind c.args.literals.now c.requires (xor_kind c.args.kind c.ranges.kind c.if-kind-eq1.true) c.if-literals-eq2.false).long in search rules

pub both_size-requires-then-kind-eq1-2 : goal.both_size-requires-then-kind-eq1-2
both_size-requires-then-kind-eq1-2 c = small_size (at_place c.args.literals.now 2) (three_literals c.args.kind c.args.literals.now c.requires (xor_kind c.args.kind c.ranges.kind c.if-kind-eq1.true) c.if-literals-eq2.false).third

pub overflow_add-result-then-kind-eq1 : goal.overflow_add-result-then-kind-eq1
overflow_add-result-then-kind-eq1 c =
    let t = three_literals c.args.kind c.args.literals.now c.requires (xor_kind c.args.kind c.ranges.kind c.if-kind-eq1.true) c.if-literals-eq2.false in
    omega (arith, twice_is (at_place c.args.literals.now 0) _ t.first c.both_size.ensures, twice_is (at_place c.args.literals.now 1) _ t.second c.both_size-then-kind-eq1.ensures, twice_is (at_place c.args.literals.now 2) _ t.third c.both_size-then-kind-eq1-2.ensures, twice_few (at_place c.args.literals.now 0) t.first, twice_few (at_place c.args.literals.now 1) t.second, twice_few (at_place c.args.literals.now 2) t.third)

pub overflow_mul-result : goal.overflow_mul-result
overflow_mul-result c =
    let t = three_literals c.args.kind c.args.literals.now c.requires (xor_kind c.args.kind c.ranges.kind c.if-kind-eq1.true) c.if-literals-eq2.false in
    omega (arith, twice_is (at_place c.args.literals.now 0) _ t.first c.both_size.ensures, twice_is (at_place c.args.literals.now 1) _ t.second c.both_size-then-kind-eq1.ensures, twice_is (at_place c.args.literals.now 2) _ t.third c.both_size-then-kind-eq1-2.ensures, twice_few (at_place c.args.literals.now 0) t.first, twice_few (at_place c.args.literals.now 1) t.second, twice_few (at_place c.args.literals.now 2) t.third)

pub overflow_add-result-then-kind-eq1-2 : goal.overflow_add-result-then-kind-eq1-2
overflow_add-result-then-kind-eq1-2 c =
    let t = three_literals c.args.kind c.args.literals.now c.requires (xor_kind c.args.kind c.ranges.kind c.if-kind-eq1.true) c.if-literals-eq2.false in
    omega (arith, twice_is (at_place c.args.literals.now 0) _ t.first c.both_size.ensures, twice_is (at_place c.args.literals.now 1) _ t.second c.both_size-then-kind-eq1.ensures, twice_is (at_place c.args.literals.now 2) _ t.third c.both_size-then-kind-eq1-2.ensures, twice_few (at_place c.args.literals.now 0) t.first, twice_few (at_place c.args.literals.now 1) t.second, twice_few (at_place c.args.literals.now 2) t.third)

pub returns-then-kind-eq1 : goal.returns-then-kind-eq1
returns-then-kind-eq1 c =
    let t = three_literals c.args.kind c.args.literals.now c.requires (xor_kind c.args.kind c.ranges.kind c.if-kind-eq1.true) c.if-literals-eq2.false in
    omega (arith, twice_is (at_place c.args.literals.now 0) _ t.first c.both_size.ensures, twice_is (at_place c.args.literals.now 1) _ t.second c.both_size-then-kind-eq1.ensures, twice_is (at_place c.args.literals.now 2) _ t.third c.both_size-then-kind-eq1-2.ensures, ap (λ (cs : List Clause). length (clauses_text cs)) t.record_is, triple_long (at_place c.args.literals.now 0) (at_place c.args.literals.now 1) (at_place c.args.literals.now 2))

pub closed_size-requires : goal.closed_size-requires
closed_size-requires c =
    record {
      few_literals = c.requires.few;
      literals_within = c.requires.within;
    }

pub returns : goal.returns
returns c =
    c.closed_size.ensures ∙ sym (ap (λ (cs : List Clause). length (clauses_text cs)) (or_record c.args.kind _ c.if-kind-eq1.false) ∙ ap length (or_text c.args.literals.now))
