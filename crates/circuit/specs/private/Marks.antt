-- For the contracts of the functions that read the header of a text: what its mark lines give, and where they end.
use Rattle.std.specs.Prelude.{ℕ, ◌+◌, Bool, true, false, cond, List, drop}
use Rattle.circuit.specs.declared.file.marks.MarksNext.{MarksNext}
use Rattle.circuit.specs.declared.file.marks.HeaderNext.{HeaderNext}
use Rattle.circuit.specs.declared.file.scan.Numeral.{Numeral}
use Rattle.circuit.specs.Outcome.{Outcome, served, demand, and_then}
use Rattle.circuit.specs.Refusal.{wrong_form}
use Rattle.circuit.specs.File.{lines_of, line_size, fields_of, mark_number, mark_value, mark_on, Marks, no_marks, group_from, header_of}
use Rattle.circuit.specs.private.Scan.{line_at, width, later_fields, count_next}

-- how many bytes a mark line has before its line number, and after it
abbrev pub word_size : Bool → ℕ
word_size constant = cond constant 6 5

abbrev pub end_size : Bool → ℕ
end_size constant = cond constant 3 1

-- the line of a mark in a field at a position, and the position after the field
abbrev pub mark_line_next : ℕ → ℕ → ℕ → ℕ → List ℕ → Outcome Numeral
mark_line_next n i mask at f = and_then (mark_number n i mask f) (λ k. served (record { value = k; next = at + width k }))

-- the value of the mark whose line stands before a position
abbrev pub value_at : Bool → ℕ → List ℕ → Outcome Bool
value_at constant i r =
    and_then (mark_value constant i (later_fields (fields_of (line_at r).bytes))) (λ value. demand (line_at r).ended wrong_form i (served value))

-- marks, the index of the next line, and its position
abbrev pub marks_at : Marks → ℕ → ℕ → MarksNext
marks_at m i at = record { mask = m.mask; values = m.values; place = i; next = at }

abbrev pub marks_of : MarksNext → Marks
marks_of m = record { mask = m.mask; values = m.values }

-- the same with the mark of the line at a position
abbrev pub mark_next : Bool → ℕ → MarksNext → List ℕ → Outcome MarksNext
mark_next constant n m r =
    and_then (mark_on constant n m.place (marks_of m) (line_at r)) (λ more. served (marks_at more (m.place + 1) (m.next + line_size (line_at r))))

-- the marks of the group whose lines start at line i and at a position
abbrev pub group_next : Bool → ℕ → ℕ → ℕ → List ℕ → Outcome MarksNext
group_next constant n i at text =
    and_then (group_from constant n i at no_marks (lines_of (drop at text))) (λ g. served (marks_at g.marks g.line g.at))

-- the header of a text, and the index and the position of the line after it
abbrev pub header_next : List ℕ → Outcome HeaderNext
header_next text =
    and_then (count_next text) (λ n.
    and_then (group_next true n.value 1 n.next text) (λ c.
    and_then (group_next false n.value c.place c.next text) (λ j.
    served (record { header = header_of n.value (marks_of c) (marks_of j); place = j.place; next = j.next }))))
