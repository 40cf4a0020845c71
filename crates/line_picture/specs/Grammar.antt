-- The grammar of reports: the report that bytes are, or the first bad line and the lowest fault on it.
use Rattle.std.specs.Prelude.{ℕ, ◌+◌, List, [], ◌∷◌, ◌++◌, length, Option, Some, None, Result, Ok, if◌then◌else◌, codes}
use Rattle.std.specs.Fmt.{decimal}
use Rattle.shfl_line.specs.declared.events.Form.{Form}
use Rattle.doc_text.specs.declared.fault.Fault.{Fault}
use Rattle.doc_text.specs.Text.{pieces, text_in}
use Rattle.doc_text.specs.Words.{words, same}
use Rattle.doc_text.specs.Faults.{fault, ◌>>=◌, or_fault, line_due, fixed_due, section_from}
use Rattle.line_picture.specs.Heading.{heading_in}
use Rattle.line_picture.specs.Rows.{row_in, first_word}
use Rattle.line_picture.specs.Reports.{Row, Report, count_admitted, count_refused}

-- the text of the first line, what it says, and the pieces behind it; a bad one is fault 2
unfoldable pub front_in : List (List ℕ) → Result (List ℕ × (Form × ℕ) × List (List ℕ)) Fault
front_in ps = line_due 1 2 ps >>= λ l. or_fault 1 2 (heading_in (words l.0)) >>= λ h. Ok (l.0, h, l.1)

-- Each line up to the one that begins with the word `end` is an event's, with the next number, or bad by fault 3.
unfoldable pub row_says : Form → ℕ → List Row → ℕ → List ℕ → Result (Option Row) Fault
row_says form passes before line text =
    if same (first_word text) (codes "end") then Ok None
    else or_fault line 3 (row_in form passes (length before + 1) text) >>= λ row. Ok (Some row)

-- the events' lines, and the pieces from the line `end` on; without that line the fault is 4
unfoldable pub rows_in : Form → ℕ → List (List ℕ) → Result (List Row × List (List ℕ)) Fault
rows_in form passes ps = section_from (row_says form passes) (λ _. 4) [] 2 ps

-- `end yes Y no N` with the numbers of these events
abbrev pub totals_text : List Row → List ℕ
totals_text rows = codes "end yes " ++ decimal (count_admitted rows) ++ codes " no " ++ decimal (count_refused rows)

-- nothing stands behind; a line there is fault 5
unfoldable pub nothing_due : ℕ → List (List ℕ) → Result (List (List ℕ)) Fault
nothing_due line [] = Ok []
nothing_due line (p ∷ ps) = or_fault line 1 (text_in p) >>= λ t. fault line 5

-- the report, or the fault, that the bytes are
unfoldable pub report_in : List ℕ → Result Report Fault
report_in bytes = front_in (pieces bytes) >>= λ f. rows_in f.1.0 f.1.1 f.2 >>= λ r.
    fixed_due (length r.0 + 2) 4 (totals_text r.0) r.1 >>= λ rest. nothing_due (length r.0 + 3) rest >>= λ _.
    Ok (record { heading = f.0; form = f.1.0; passes = f.1.1; rows = r.0 })
