-- What one line of a schedule says.
use Rattle.std.specs.Prelude.{ℕ, List, Option, Some, None, nat_lt, if◌then◌else◌, codes}
use Rattle.shfl_line.specs.declared.events.Form.{Form}
use Rattle.doc_text.specs.Words.{same, two, ◌>>?◌}
use Rattle.doc_text.specs.Numbers.{number_in}
use Rattle.policy_text.specs.declared.rules.RuleSource.{RuleSource}
use Rattle.policy_text.specs.Rules.{words_behind, rule_in}
use Rattle.shfl_sched.specs.declared.schedule.Act.{Act}
use Rattle.shfl_sched.specs.declared.schedule.Act.TheVariants as acts
use Rattle.shfl_sched.specs.declared.schedule.Event.{Event}
use Rattle.shfl_sched.specs.Schedules.{is_act_of}

-- ---- the policy

-- `policy` and a rule, its programs still as bytes
abbrev pub policy_in : List (List ℕ) → Option RuleSource
policy_in ws = words_behind (codes "policy") ws >>? rule_in

-- ---- the events

abbrev pub act_named : List ℕ → Option Act
act_named word =
    if same word (codes "write") then Some acts.Write
    else if same word (codes "read") then Some acts.Read
    else if same word (codes "free") then Some acts.Free
    else if same word (codes "step") then Some acts.Step
    else None

-- the number of one of so many passes, of which there are at most 64
abbrev pub pass_in : ℕ → List ℕ → Option ℕ
pass_in passes word = number_in 63 word >>? λ pass. if nat_lt pass passes then Some pass else None

-- `write P`, `read P`, `free P` or `step P`, in a lock of this form with so many passes; `read` only where readers may hold it
abbrev pub event_in : Form → ℕ → List (List ℕ) → Option Event
event_in form passes ws = two ws >>? λ w. act_named w.0 >>? λ act. pass_in passes w.1 >>? λ pass.
    if is_act_of form act then Some (record { act = act; pass = pass }) else None
