-- A schedule as contracts see it.
use Rattle.std.specs.Prelude.{◌≤◌, ◌<◌, ℕ, List, Bool, true, IsTrue, length}
use Rattle.std.specs.List.{AllByRecursion}
use Rattle.bpf_isa.specs.declared.insn.Profile.{Profile}
use Rattle.shfl_line.specs.declared.words.Attr.{Attr}
use Rattle.shfl_line.specs.declared.events.Form.{Form}
use Rattle.shfl_core.specs.Plan.{shares}
use Rattle.policy_text.specs.Attributes.{IsAttr}
use Rattle.policy_text.specs.Headings.{IsVersion}
use Rattle.shfl_sched.specs.declared.schedule.Rule.{Rule}
use Rattle.shfl_sched.specs.declared.schedule.Act.{Act}
use Rattle.shfl_sched.specs.declared.schedule.Act.TheVariants as acts
use Rattle.shfl_sched.specs.declared.schedule.Event.{Event}

-- how a lock is opened, and what its passes do
pub record ScheduleModel : Type 0 where
  pub version : ℕ
  pub profile : Profile
  pub form : Form
  pub limit : ℕ
  pub rule : Rule
  pub passes : List Attr
  pub events : List Event

-- the act may stand in a schedule of this form
abbrev pub is_act_of : Form → Act → Bool
is_act_of form acts.Read = shares form
is_act_of form acts.Write = true
is_act_of form acts.Free = true
is_act_of form acts.Step = true

-- an event of one of so many passes, in a lock of this form
pub record IsEventOf (form : Form) (passes : ℕ) (e : Event) : Type 0 where
  pub act : IsTrue (is_act_of form e.act)
  pub pass : e.pass < passes

-- a schedule within the limits, whose events name passes that it has
pub record IsWithin (s : ScheduleModel) : Type 0 where
  pub version : IsVersion s.version s.profile
  pub limit : (0 < s.limit) × (s.limit ≤ 1024)
  pub passes : (0 < length s.passes) × (length s.passes ≤ 64)
  pub attrs : AllByRecursion IsAttr s.passes
  pub few : length s.events ≤ 65536
  pub events : AllByRecursion (IsEventOf s.form (length s.passes)) s.events
