-- A row with marks: its text, and its reading. Assumes nothing.
use Rattle.std.proofs.Common.{◌≡◌, [], refl}
use Rattle.bits.specs.Digits.{bit, lines_in}
use Rattle.circuit.specs.Outcome.{served}
use Rattle.circuit.specs.Text.{number_text, gate_lines, text_of}
use Rattle.circuit.specs.File.{lines_of, parted_by, same, number_of, count_fields, starts_fields, mark_number, mark_value, mark_fields, group_from, read_from, reading}
use Rattle.circuit.specs.FileLaws.{marked_row, marked_header}

pub row_text : text_of marked_header [] ≡ marked_row
unfolding bit lines_in number_text gate_lines
row_text = refl

pub row_read : reading marked_row ≡ served (record { header = marked_header; gates = []; taken = 29 })
unfolding lines_of parted_by same number_of count_fields starts_fields mark_number mark_value mark_fields group_from read_from reading
row_read = refl
