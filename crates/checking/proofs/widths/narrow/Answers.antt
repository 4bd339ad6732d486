-- `checking::widths::narrow` meets its contract.
use Rattle.std.proofs.Common.{sym, arith}
use Rattle.checking.proofs.lemmas.widths.Laws.{all_narrow}
use Rattle.checking.proofs.widths.narrow.Goals as goal

pub put_narrow-requires-clause-narrow_words : goal.put_narrow-requires-clause-narrow_words
put_narrow-requires-clause-narrow_words c = ((all_narrow c.args.words.now c.in_ok-size.size).0 (sym c.in_ok-size.ensures)).1

pub put_narrow-requires-clause-word_room : goal.put_narrow-requires-clause-word_room
put_narrow-requires-clause-word_room c = omega (arith, ((all_narrow c.args.words.now c.in_ok-size.size).0 (sym c.in_ok-size.ensures)).0)
