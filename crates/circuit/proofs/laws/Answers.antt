-- `circuit::laws` meets its contract: the record of the laws. Assumes nothing.
use Rattle.circuit.proofs.lemmas.gate.Valid.{valid_by_lines, lines_valid, valid_more, count_lines}
use Rattle.circuit.proofs.lemmas.gate.Effect.{fires_lines, lines_fires, apply_bit, apply_none, apply_not, missed_line, missed_none, toggled_apply, apply_twice, apply_below}
use Rattle.circuit.proofs.lemmas.gate.Controls.{controls_count, controls_fire}
use Rattle.circuit.proofs.lemmas.words.Gates.{gates_words, words_gates}
use Rattle.circuit.proofs.lemmas.words.Tests.{check_served, served_check, check_refused, refused_check, pair_served, served_pair, pair_refused}
use Rattle.circuit.proofs.lemmas.header.Marks.{marks_lines, lines_marks, permits_exactly, alike_lines, lines_alike, unmarked_good, unmarked_header, unmarked_state, unmarked_line}
use Rattle.circuit.proofs.lemmas.header.Tests.{headed_served, served_headed, headed_exactly, unmarked_outcome, headed_pair_served, served_headed_pair, headed_pair_refused, unmarked_pair}
use Rattle.circuit.proofs.lemmas.header.Runs.{equal_differs_for, unmarked_equal, unmarked_differs}
use Rattle.circuit.proofs.lemmas.run.Laws.{run_append, tested_run, run_below, equal_differs, run_refused, run_served, served_run}
use Rattle.circuit.proofs.lemmas.run.Records.{records_words, records_served, served_records, records_refused, refused_records}
use Rattle.circuit.proofs.lemmas.inverse.Laws.{run_inverse, inverse_run, inverse_append, inverse_twice, inverse_valid, refused_exactly, inverse_served, served_inverse, inverse_stands, inverse_untouched}
use Rattle.circuit.proofs.lemmas.file.Laws.{reader, read_served, served_read, read_refused, write_served, served_write, write_refused, refuses_all}
use Rattle.circuit.proofs.lemmas.file.Unmarked.{unmarked_files, marks_unread}
use Rattle.circuit.proofs.lemmas.file.Rows.{row_text, row_read}
use Rattle.circuit.proofs.lemmas.file.RoundTrip.{round_trip, idle_reading, idle_writing}
use Rattle.circuit.proofs.laws.Goals as goal

pub returns : goal.returns
returns c =
    record {
      gate =
          record {
            fires_lines = λ g s. (fires_lines g s, lines_fires g s);
            valid_lines = λ n g. (valid_by_lines n g, lines_valid n g);
            valid_more = valid_more;
            apply_line = apply_bit;
            apply_none = apply_none;
            apply_not = apply_not;
            missed_line = missed_line;
            missed_none = missed_none;
            toggled_apply = toggled_apply;
            apply_twice = apply_twice;
            apply_below = apply_below;
            count_lines = count_lines;
            controls_count = controls_count;
            controls_fire = controls_fire;
          };
      words =
          record {
            gates_words = gates_words;
            words_gates = words_gates;
            check_served = λ n ws limit k. (check_served n ws limit k, served_check n ws limit k);
            check_refused = λ n ws limit number place. (check_refused n ws limit number place, refused_check n ws limit number place);
            pair_served = λ na a nb b c. (pair_served na a nb b c, served_pair na a nb b c);
            pair_refused = pair_refused;
          };
      headers =
          record {
            marks_lines = λ h. (marks_lines h, lines_marks h);
            permits_lines = permits_exactly;
            alike_lines = λ h s t hs ht. (alike_lines h s t, lines_alike h s t hs ht);
            headed_served = λ h ws limit k. (headed_served h ws limit k, served_headed h ws limit k);
            headed_refused = headed_exactly;
            pair_served = λ ha a hb b c. (headed_pair_served ha a hb b c, served_headed_pair ha a hb b c);
            pair_refused = headed_pair_refused;
            equal_differs = equal_differs_for;
            unmarked_good = unmarked_good;
            unmarked_only = unmarked_header;
            unmarked_outcome = unmarked_outcome;
            unmarked_pair = unmarked_pair;
            unmarked_permitted = λ n x. ((λ p. p.state), unmarked_state n x);
            unmarked_counts = λ n k. ((λ c. c.below), unmarked_line n k);
            unmarked_equal = unmarked_equal;
            unmarked_differs = unmarked_differs;
          };
      cascades =
          record {
            run_append = run_append;
            run_below = run_below;
            tested_run = tested_run;
            run_served = λ n ws s t. (run_served n ws s t, (λ (k, c, h, e). served_run n ws s t k c h e));
            run_refused = run_refused;
            records_served = λ n gs s t. (records_served n gs s t, (λ (c, h, e). served_records n gs s t c h e));
            records_refused = λ n gs s number place. (records_refused n gs s number place, refused_records n gs s number place);
            records_words = records_words;
            inverse_served = λ n ws room k. (inverse_served n ws room k, (λ (c, h). served_inverse n ws room k c h));
            inverse_stands = inverse_stands;
            inverse_untouched = inverse_untouched;
            inverse_refused = refused_exactly;
            run_inverse = run_inverse;
            inverse_run = inverse_run;
            inverse_append = inverse_append;
            inverse_twice = inverse_twice;
            inverse_valid = inverse_valid;
            equal_differs = equal_differs;
          };
      file =
          record {
            row_text = row_text;
            row_read = row_read;
            reader = reader;
            unmarked_files = unmarked_files;
            round_trip = round_trip;
            idle_reading = idle_reading;
            idle_writing = idle_writing;
            read_served = λ text room c. (read_served text room c, served_read text room c);
            read_refused = read_refused;
            write_served = λ n ws room k. (write_served n ws room k, served_write n ws room k);
            write_refused = write_refused;
            refuses_all = refuses_all;
            marks_unread = marks_unread;
          };
    }
