-- The texts of a schedule. Digits of programs may be in either case, so that a schedule has several.
use Rattle.std.specs.Prelude.{◌≡◌, ℕ, List, [], ◌∷◌, ◌++◌, length, map, codes}
use Rattle.std.specs.List.{flat_map}
use Rattle.std.specs.Fmt.{decimal}
use Rattle.bpf_isa.specs.declared.insn.Profile.{Profile}
use Rattle.shfl_line.specs.declared.words.Attr.{Attr}
use Rattle.shfl_line.specs.declared.events.Form.{Form}
use Rattle.doc_text.specs.Text.{ended}
use Rattle.doc_text.specs.Words.{spaced}
use Rattle.lock_words.specs.Forms.{form_text}
use Rattle.policy_source.specs.Source.{SourceModel}
use Rattle.shfl_policy.specs.Loading.{IsLoaded}
use Rattle.policy_text.specs.Attributes.{attr_line}
use Rattle.policy_text.specs.Headings.{heading_lines}
use Rattle.policy_text.specs.Programs.{IsProgramWord}
use Rattle.shfl_sched.specs.declared.schedule.Rule.{Rule}
use Rattle.shfl_sched.specs.declared.schedule.Rule.TheVariants as rules
use Rattle.shfl_sched.specs.declared.schedule.Act.{Act}
use Rattle.shfl_sched.specs.declared.schedule.Act.TheVariants as acts
use Rattle.shfl_sched.specs.declared.schedule.Event.{Event}
use Rattle.shfl_sched.specs.Schedules.{ScheduleModel}

abbrev pub act_word : Act → List ℕ
act_word acts.Write = codes "write"
act_word acts.Read = codes "read"
act_word acts.Free = codes "free"
act_word acts.Step = codes "step"

-- no act of so many letters and a blank stand at the front
abbrev pub NamesNoActOf : ℕ → List ℕ → Type 0
NamesNoActOf letters text = (act : Act) (rest : List ℕ) → length (act_word act) ≡ letters → text ≡ act_word act ++ 32 ∷ rest → ⊥

-- no act and a blank do
abbrev pub NamesNoAct : List ℕ → Type 0
NamesNoAct text = (act : Act) (rest : List ℕ) → text ≡ act_word act ++ 32 ∷ rest → ⊥

abbrev pub form_line : Form → List ℕ
form_line form = spaced (codes "form" ∷ form_text form ∷ [])

abbrev pub limit_line : ℕ → List ℕ
limit_line limit = spaced (codes "limit" ∷ decimal limit ∷ [])

abbrev pub event_line : Event → List ℕ
event_line e = spaced (act_word e.act ∷ decimal e.pass ∷ [])

-- a policy line of a rule; the policy has the name 0, and is loaded from the programs that two words write
abbrev pub IsRuleLine : Profile → List ℕ → Rule → Type 0
IsRuleLine profile text rules.Never = text ≡ codes "policy never"
IsRuleLine profile text rules.Always = text ≡ codes "policy always"
IsRuleLine profile text rules.Socket = text ≡ codes "policy socket"
IsRuleLine profile text (rules.Program policy) = (source : SourceModel) × (should skip : List ℕ)
    × (text ≡ spaced (codes "policy" ∷ codes "program" ∷ should ∷ skip ∷ []))
    × IsProgramWord source.should should × IsProgramWord source.skip skip × IsLoaded 0 profile source policy

-- the lines of the passes and of the events
abbrev pub body_lines : List Attr → List Event → List (List ℕ)
body_lines passes events = map (attr_line (codes "pass")) passes ++ (codes "events" ∷ map event_line events)

-- the lines of a schedule, this policy line among them
abbrev pub schedule_lines : ScheduleModel → List ℕ → List (List ℕ)
schedule_lines s policy =
    heading_lines (codes "shfl-line") s.version s.profile ++ (form_line s.form ∷ limit_line s.limit ∷ policy ∷ body_lines s.passes s.events)

-- the bytes are a text of the schedule
abbrev pub IsText : List ℕ → ScheduleModel → Type 0
IsText bytes s = (policy : List ℕ) × IsRuleLine s.profile policy s.rule × (bytes ≡ flat_map ended (schedule_lines s policy))
