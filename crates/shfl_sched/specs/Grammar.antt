-- The grammar of schedules: the schedule that bytes are, or the first bad line and the lowest fault on it.
use Rattle.std.specs.Prelude.{◌≡◌, ℕ, ◌+◌, List, [], length, Some, Result, Ok, Err, nat_le, if◌then◌else◌, codes}
use Rattle.bpf_isa.specs.declared.insn.Profile.{Profile}
use Rattle.shfl_line.specs.declared.words.Attr.{Attr}
use Rattle.shfl_line.specs.declared.events.Form.{Form}
use Rattle.policy_source.specs.Source.{SourceModel}
use Rattle.shfl_policy.specs.Loading.{IsLoaded}
use Rattle.shfl_policy.specs.Policies.{PolicyModel}
use Rattle.doc_text.specs.declared.fault.Fault.{Fault}
use Rattle.doc_text.specs.Text.{pieces}
use Rattle.doc_text.specs.Words.{words}
use Rattle.doc_text.specs.Faults.{fault, ◌>>=◌, or_fault, line_due, one_of, fixed_due, lines_from, Then}
use Rattle.lock_words.specs.Lines.{form_in, limit_in}
use Rattle.policy_text.specs.declared.rules.RuleSource.{RuleSource}
use Rattle.policy_text.specs.declared.rules.RuleSource.TheVariants as said
use Rattle.policy_text.specs.Headings.{heading_in}
use Rattle.policy_text.specs.Sections.{SectionModel, attrs_in}
use Rattle.shfl_sched.specs.declared.faults.TheConstants.{FORM, LIMIT, POLICY, PROGRAM, PASS, EVENT, OVER, PROFILE}
use Rattle.shfl_sched.specs.declared.schedule.Rule.{Rule}
use Rattle.shfl_sched.specs.declared.schedule.Rule.TheVariants as rules
use Rattle.shfl_sched.specs.declared.schedule.Event.{Event}
use Rattle.shfl_sched.specs.Schedules.{ScheduleModel}
use Rattle.shfl_sched.specs.Lines.{policy_in, event_in}

-- ---- the lines up to the policy

-- what these lines say, the text of the policy line among them, and the pieces behind them
pub record Front : Type 0 where
  pub version : ℕ
  pub profile : Profile
  pub form : Form
  pub limit : ℕ
  pub policy : List ℕ
  pub rest : List (List ℕ)

-- A bad first line is fault 2, a bad or missing profile line fault 10, a bad form line 3, a bad limit line 4.
unfoldable pub front_in : List (List ℕ) → Result Front Fault
front_in ps = heading_in (codes "shfl-line") PROFILE ps >>= λ h. one_of (h.version + 1) FORM form_in h.rest >>= λ f.
    one_of (h.version + 2) LIMIT limit_in f.1 >>= λ l. line_due (h.version + 3) POLICY l.1 >>= λ p.
    Ok (record { version = h.version; profile = h.profile; form = f.0; limit = l.0; policy = p.0; rest = p.1 })

-- the line of the policy
abbrev pub policy_line : Front → ℕ
policy_line f = f.version + 3

-- ---- the policy

-- The policy of the name 0 whose programs these bytes are; where they aren't both accepted, fault 6.
-- It is a relation, since acceptance speaks of all paths through a program.
abbrev pub LoadsPolicy : Profile → ℕ → SourceModel → Result Rule Fault → Type 0
LoadsPolicy profile line source (Ok rule) = (policy : PolicyModel) × IsLoaded 0 profile source policy × (rule ≡ rules.Program policy)
LoadsPolicy profile line source (Err e) = ((policy : PolicyModel) → ¬ (IsLoaded 0 profile source policy)) × (e ≡ record { line = line; what = PROGRAM })

abbrev pub ReadsSaid : Profile → ℕ → RuleSource → Result Rule Fault → Type 0
ReadsSaid profile line said.Never read = read ≡ Ok rules.Never
ReadsSaid profile line said.Always read = read ≡ Ok rules.Always
ReadsSaid profile line said.Socket read = read ≡ Ok rules.Socket
ReadsSaid profile line (said.Program source) read = LoadsPolicy profile line source read

-- what a policy line says; bad words or digits are fault 5
unfoldable pub ReadsRule : Profile → ℕ → List ℕ → Result Rule Fault → Type 0
ReadsRule profile line text read = Then (or_fault line POLICY (policy_in (words text))) (ReadsSaid profile line) read

-- ---- the passes

-- Each line up to `events` is a pass line, or bad by fault 7; so is `events` without a pass before it, and a 65th pass.
abbrev pub pass_lines : SectionModel
pass_lines = record { word = codes "pass"; last = Some (codes "events"); most = 64; bad = PASS; over = PASS; short = PASS }

unfoldable pub passes_in : ℕ → List (List ℕ) → Result (List Attr × List (List ℕ)) Fault
passes_in line ps = attrs_in pass_lines line ps

-- ---- the events

-- a bad event line is fault 8, and the 65,537th event fault 9
unfoldable pub event_says : Form → ℕ → List Event → ℕ → List ℕ → Result Event Fault
event_says form passes before line text =
    or_fault line EVENT (event_in form passes (words text)) >>= λ e. if nat_le 65536 (length before) then fault line OVER else Ok e

-- the line `events`, and the events to the end
unfoldable pub events_in : Form → ℕ → ℕ → List (List ℕ) → Result (List Event) Fault
events_in form passes line ps = fixed_due line PASS (codes "events") ps >>= λ ps. lines_from (event_says form passes) [] (line + 1) ps

-- ---- the whole

-- the schedule with the policy that was read
unfoldable pub schedule_in : Front → Result Rule Fault → Result ScheduleModel Fault
schedule_in f rule = rule >>= λ rule. passes_in (policy_line f + 1) f.rest >>= λ p.
    events_in f.form (length p.0) (policy_line f + 1 + length p.0) p.1 >>= λ events.
    Ok (record { version = f.version; profile = f.profile; form = f.form; limit = f.limit; rule = rule; passes = p.0; events = events })

-- the schedule, or the fault, that the bytes are
abbrev pub ReadsSchedule : List ℕ → Result ScheduleModel Fault → Type 0
ReadsSchedule bytes read =
    Then (front_in (pieces bytes))
    (λ f read. (rule : Result Rule Fault) × ReadsRule f.profile (policy_line f) f.policy rule × (read ≡ schedule_in f rule))
    read
