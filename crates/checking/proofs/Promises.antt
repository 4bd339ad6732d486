-- What checking promises to the proofs above it: its laws, and those by which its definitions are used there. Its other lemmas stand in the private module `lemmas`, which no other crate can name.

-- the records of its laws
pub use Rattle.checking.proofs.lemmas.miter.Laws.{miter_laws}
pub use Rattle.checking.proofs.lemmas.step.Laws.{step_laws}
pub use Rattle.checking.proofs.lemmas.reduce.Relation.{reduce_laws}
pub use Rattle.checking.proofs.lemmas.clauses.Laws.{clause_laws}
pub use Rattle.checking.proofs.lemmas.clauses.Answers.{emit_laws}
pub use Rattle.checking.proofs.lemmas.pair_emission.Laws.{pair_emit_laws}
pub use Rattle.checking.proofs.lemmas.EqualityLaws.{equality_laws}
pub use Rattle.checking.proofs.lemmas.pair.Laws.{pair_laws}
pub use Rattle.checking.proofs.lemmas.faults.StandIns.{fault_laws}
pub use Rattle.checking.proofs.lemmas.faults.Unmarked.{unmarked_laws}
pub use Rattle.checking.proofs.lemmas.faults.Refusals.{refusal_laws}
-- calls on two cascades
pub use Rattle.checking.proofs.lemmas.miter.Laws.{miter_refused}
pub use Rattle.checking.proofs.lemmas.compare.Laws.{HeadedGates, headed_gates, agree_state, differ_state, says_only, sweep_says, difference_made, refused_pick, made_pick}
-- clauses: what the list is made of, what satisfies it, and how it is stored and emitted
pub use Rattle.checking.proofs.lemmas.clauses.Maps.{clauses_none, clauses_next, differences_none, differences_next, list_parts}
pub use Rattle.checking.proofs.lemmas.clauses.Tests.{some_true, odd_true, holds_or, holds_xor, value_neg, satisfies_none, satisfies_next, satisfies_append}
pub use Rattle.checking.proofs.lemmas.clauses.Forced.{length_up_from}
pub use Rattle.checking.proofs.lemmas.clauses.Within.{neg_size, neg_within}
pub use Rattle.checking.proofs.lemmas.clauses.Meaning.{tells_same}
pub use Rattle.checking.proofs.lemmas.clauses.Reading.{stored_none, stored_next, stored_append, read_back}
pub use Rattle.checking.proofs.lemmas.clauses.Answers.{emit_cascade}
-- the list of a pair: what it is made of, what it tells, how large it is, and what its emission answers and leaves
pub use Rattle.checking.proofs.lemmas.pair.Parts.{marked_parts, unmarked_clauses, unmarked_variables}
pub use Rattle.checking.proofs.lemmas.pair.Meaning.{tells_unmarked, pair_tells}
pub use Rattle.checking.proofs.lemmas.pair.Alone.{differs_for_same, tells_for_same}
pub use Rattle.checking.proofs.lemmas.pair_emission.Fits.{counted_few, pair_within, pair_variables_few}
pub use Rattle.checking.proofs.lemmas.pair_emission.Answers.{pair_emit_good, pair_emit_wrong, pair_emit_leaves}
