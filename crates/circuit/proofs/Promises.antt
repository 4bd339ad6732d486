-- What circuit promises to the proofs above it. Its other lemmas stand in the private module `lemmas`, which no other crate can name; and no proof above opens a definition of its `specs/` (.ci/lint), so these are the laws by which such a definition is used.

-- outcomes: a test that is met or fails, a call after a call, a buffer
pub use Rattle.circuit.proofs.lemmas.Outcome.{never, unserved, demand_met, demand_failed, demanded, then_served, then_refused, then_both, then_either, then_fails, last_failed, same_refusal, told, written_served, written_refused, wrong_refused, fails_refused, same_refused, at_least, above, unequal}
-- a gate, by its masks, its lines and its list of controls
pub use Rattle.circuit.proofs.lemmas.gate.Valid.{valid_facts, valid_by_lines, lines_valid, valid_more, count_lines}
pub use Rattle.circuit.proofs.lemmas.gate.Effect.{fires_lines, lines_fires, inverted_fired, inverted_idle, apply_gate, apply_bit, apply_none, apply_not, apply_twice, apply_below, missed_line, missed_none, toggled_apply}
pub use Rattle.circuit.proofs.lemmas.gate.Controls.{met_none, met_one, met_next, met_append, few_controls, controls_fire, controls_count, control_on, controls_lines, controls_below_lem}
-- gates and their words
pub use Rattle.circuit.proofs.lemmas.words.Gates.{gates_length, gate_at_lem, gate_none, gates_next, gates_end, words_none, words_one, words_next, words_append, words_length, words_take, words_drop, gates_words, words_gates, put_fits, put_short}
pub use Rattle.circuit.proofs.lemmas.words.Gates.{valid_none, valid_parts, valid_both, valid_split, valid_append, valid_all_more, gate_valid, valid_next, valid_later}
-- the tests of a caller's words
pub use Rattle.circuit.proofs.lemmas.words.Tests.{lines_good, size_served, from_served, next_good, next_bad, none_left, gates_refused, gates_sized, check_lines, check_gates, check_served, served_check, check_refused, refused_check, words_cascade, cascade_count, cascade_words, words_wrong, pair_served, served_pair, pair_refused, pair_wrong}
-- headers: their marks, the tests of a caller's header and words, and two runs compared
pub use Rattle.circuit.proofs.lemmas.header.Marks.{marks_facts, marks_lines, lines_marks, permits_lines, lines_permit, permits_exactly, not_permitted, alike_lines, lines_alike, unlike_line, unmarked_good, unmarked_header, unmarked_permits, unmarked_state, unmarked_line, unmarked_alike, same_header, header_same}
pub use Rattle.circuit.proofs.lemmas.header.Tests.{headed_lines, headed_marks, headed_words, headed_served, served_headed, headed_refused, refused_headed, headed_exactly, headed_wrong, unmarked_outcome, headed_pair_served, served_headed_pair, headed_pair_refused, headed_pair_wrong, unmarked_pair}
pub use Rattle.circuit.proofs.lemmas.header.Runs.{equal_differs_for, differs_unlike, agrees_alike, unmarked_equal, unmarked_differs}
-- a run and the inverse
pub use Rattle.circuit.proofs.lemmas.run.Laws.{run_none, run_one, run_next, run_append, run_below, tested_run, equal_differs, run_refused, run_served, served_run}
pub use Rattle.circuit.proofs.lemmas.run.Records.{records_words, records_served, served_records, records_refused, refused_records}
pub use Rattle.circuit.proofs.lemmas.inverse.Laws.{run_inverse, inverse_run, inverse_append, inverse_length, inverse_twice, inverse_valid, refused_exactly as inverse_refused, inverse_served, served_inverse, inverse_stands, inverse_untouched, put_fits as inverse_fits}
-- files, and the bytes of a text
pub use Rattle.circuit.proofs.lemmas.file.Laws.{reader, read_as, read_served, served_read, read_refused, write_served, served_write, write_refused, refuses_all}
pub use Rattle.circuit.proofs.lemmas.file.RoundTrip.{round_trip, idle_reading, idle_writing, read_leaves}
pub use Rattle.circuit.proofs.lemmas.file.Controls.{controls_inside}
pub use Rattle.circuit.proofs.lemmas.file.MarkLines.{no_mark_lines, mark_lines_few}
pub use Rattle.circuit.proofs.lemmas.file.Lines.{whole, whole_one, whole_next, parts_none, parts_some, parts_cut, parts_one, parts_back, same_true, same_self, true_same}
pub use Rattle.circuit.proofs.lemmas.file.Numbers.{is_digit_lem, digit_bounds}
pub use Rattle.circuit.proofs.lemmas.file.put.Laws.{Written, copied, written_none, written_more, written_put, put_as, rest_length}
