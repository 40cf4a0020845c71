-- The bytes of a line report: a heading, a row for each event, and the counts.
use Rattle.std.specs.Prelude.{ℕ, ◌+◌, List, [], ◌∷◌, ◌++◌, Bool, not, codes, count_by, length, if◌then◌else◌}
use Rattle.std.specs.Fmt.{decimal}
use Rattle.bpf_isa.specs.declared.insn.Profile.{Profile}
use Rattle.lock_words.specs.Forms.{form_text}
use Rattle.policy_text.specs.Blanks.{blanked}
use Rattle.policy_text.specs.Headings.{version_words}
use Rattle.shfl_line.specs.declared.events.Form.{Form}
use Rattle.shfl_line.specs.Line.{Line}
use Rattle.shfl_core.specs.declared.words.Word.TheVariants.{Lock}
use Rattle.shfl_core.specs.Plan.{parks}
use Rattle.shfl_core.specs.ShownLine.{shown_line}
use Rattle.shfl_core.specs.Words.{look}
use Rattle.shfl_core.specs.Worlds.{World}
use Rattle.shfl_sched.specs.declared.schedule.Event.{Event}
use Rattle.shfl_sched.specs.Schedules.{ScheduleModel}
use Rattle.shfl_sched.specs.ReportParts.{act_text, answer_text, hold_text, queue_text, hand_text, role_text, parked_text}
use Rattle.shfl_sched.specs.Run.{Moment, moments_of}

-- `K EVENT P yes|no`
unfoldable pub event_text : ℕ → Event → Bool → List ℕ
event_text k event admitted = decimal k ++ codes " " ++ act_text event.act ++ codes " " ++ decimal event.pass
    ++ codes " " ++ answer_text admitted

-- ` word W hold H line L hand D role R`
unfoldable pub state_text : ℕ → Line → List ℕ
state_text word s = codes " word " ++ decimal word ++ codes " hold " ++ hold_text s ++ codes " line " ++ queue_text s
    ++ codes " hand " ++ hand_text s.hand ++ codes " role " ++ role_text s.role

-- ` asleep A` in the forms in which waiters park
unfoldable pub asleep_text : Form → World → List ℕ
asleep_text form w = if parks form then codes " asleep " ++ parked_text w else []

-- `K EVENT P yes|no word W hold H line L hand D role R`, and ` asleep A` where waiters park: all after the event
unfoldable pub row : Form → ℕ → Event → Bool → World → List ℕ
row form k event admitted after = event_text k event admitted ++ state_text (look after.words Lock) (shown_line after)
    ++ asleep_text form after ++ codes "\n"

-- the rows of these moments, the first of them with this number
abbrev pub rows_from : Form → ℕ → List Moment → List ℕ
rows_from form k [] = []
rows_from form k (m ∷ ms) = row form k m.event m.admitted m.after ++ rows_from form (k + 1) ms

-- `shfl-line 1`, or `shfl-line 2 profile P`
unfoldable pub version_text : ℕ → Profile → List ℕ
version_text version profile = codes "shfl-line" ++ blanked (version_words version profile)

-- ` form F limit N passes P`
unfoldable pub sizes_text : Form → ℕ → ℕ → List ℕ
sizes_text form limit passes = codes " form " ++ form_text form ++ codes " limit " ++ decimal limit
    ++ codes " passes " ++ decimal passes ++ codes "\n"

abbrev pub heading_text : ScheduleModel → List ℕ
heading_text s = version_text s.version s.profile ++ sizes_text s.form s.limit (length s.passes)

-- `end yes Y no N`
unfoldable pub totals_text : ℕ → ℕ → List ℕ
totals_text admitted refused = codes "end yes " ++ decimal admitted ++ codes " no " ++ decimal refused ++ codes "\n"

abbrev pub count_admitted : List Moment → ℕ
count_admitted ms = count_by (λ m. m.admitted) ms

abbrev pub count_refused : List Moment → ℕ
count_refused ms = count_by (λ m. not m.admitted) ms

-- the line report of a schedule
abbrev pub line_report : ScheduleModel → List ℕ
line_report s = let ms = moments_of s in
    heading_text s ++ rows_from s.form 1 ms ++ totals_text (count_admitted ms) (count_refused ms)
