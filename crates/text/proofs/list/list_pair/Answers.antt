-- `text::list::list_pair` meets its contract. Assumes nothing.
use Rattle.text.proofs.list.Laws.{own_words, pair_delivers}
use Rattle.text.proofs.list.list_pair.Goals as goal

pub returns : goal.returns
returns c =
    let a = c.args.first in
    let b = c.args.second in
    pair_delivers _ _ _ _ (own_words _ _ a.cascade) (own_words _ _ b.cascade) c.args.clauses.now c.requires _ c.emit.ensures.yields.answer _ _ c.of.ensures c.emit.ensures.yields.buffer
