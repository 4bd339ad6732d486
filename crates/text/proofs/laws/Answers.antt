-- `text::laws` meets its contract: the record of the laws. Assumes nothing.
use mathlib.Core.Path.{refl}
use Rattle.circuit.specs.Header.{unmarked}
use Rattle.text.proofs.Reading.{number_back, text_back}
use Rattle.text.proofs.Fields.{refusal_fields, refusal_apart, differ_fields}
use Rattle.text.proofs.Strict.{text_was}
use Rattle.text.proofs.Sizes.{text_fits, room_enough}
use Rattle.text.proofs.Telling.{as_built, unmarked_text}
use Rattle.text.proofs.ProgramLaws.{program_laws, first_large, second_large, first_held, program_only, call}
use Rattle.text.proofs.StandIns.{contradiction_fails, without_first_fails, refuses_all, junk_counted as program_junk, constants_ignored as program_constants}
use Rattle.text.proofs.PlainClauses.{plain_satisfied, plain_within, plain_or, plain_each, plain_same}
use Rattle.text.proofs.plain.Laws.{pair_parts, triple_parts}
use Rattle.text.proofs.Reduced.{left_unmarked}
use Rattle.text.proofs.Compares.{compares}
use Rattle.text.proofs.Rooms.{call as compare-call}
use Rattle.text.proofs.Longest.{text_fits as compared-fits, room_enough as compared-room}
use Rattle.text.proofs.Inputs.{state_size, state_line, state_back, state_was, checks, checks_only, call as input-call, text_fits as checked-fits, room_enough as checked-room}
use Rattle.text.proofs.Others.{refused_told, equal_true, differ_true, always_equal, always_asks, junk_counted, constants_ignored, compares_only}
use Rattle.text.proofs.Rows.{empty_or, rows_hold, files_hold, inputs_hold}
use Rattle.text.proofs.laws.Goals as goal

pub returns : goal.returns
returns c =
    record {
      text =
          record {
            read_back = text_back;
            read_text = text_was;
            empty_or = empty_or;
            number_back = number_back;
            refusal_fields = refusal_fields;
            refusal_apart = refusal_apart;
            first_large = first_large;
            second_large = second_large;
            first_held = first_held;
            program = program_laws;
            as_built = as_built;
            unmarked_text = unmarked_text;
            program_only = program_only;
            contradiction_fails = contradiction_fails;
            without_first_fails = without_first_fails;
            refuses_all = refuses_all;
            junk_counted = program_junk;
            constants_ignored = program_constants;
            call = call;
            text_fits = text_fits;
            room_enough = room_enough;
            rows = rows_hold;
          };
      compare =
          record {
            plain_satisfied = plain_satisfied;
            plain_within = plain_within;
            plain_or = plain_or;
            plain_each = plain_each;
            plain_same = plain_same;
            plain_two = pair_parts;
            plain_three = triple_parts;
            differ_fields = differ_fields;
            compares = compares;
            compares_only = compares_only;
            refused_told = refused_told;
            equal_true = equal_true;
            differ_true = differ_true;
            always_equal = always_equal;
            always_asks = always_asks;
            junk_counted = junk_counted;
            constants_ignored = constants_ignored;
            unmarked_left = λ n a b. left_unmarked (unmarked n) a b refl;
            call = compare-call;
            text_fits = compared-fits;
            room_enough = compared-room;
            rows = files_hold;
          };
      input =
          record {
            state_size = state_size;
            state_line = state_line;
            state_back = state_back;
            state_was = state_was;
            checks = checks;
            checks_only = checks_only;
            call = input-call;
            text_fits = checked-fits;
            room_enough = checked-room;
            rows = inputs_hold;
          };
    }
