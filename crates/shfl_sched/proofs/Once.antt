-- Bytes have one reading.
use Rattle.std.proofs.Common.{◌≡◌, ℕ, List, Result, Ok, Err, sym, ap, ◌∙◌}
use Rattle.bpf_isa.specs.declared.insn.Profile.{Profile}
use Rattle.doc_text.specs.declared.fault.Fault.{Fault}
use Rattle.doc_text.specs.Text.{pieces}
use Rattle.doc_text.specs.Words.{words}
use Rattle.doc_text.specs.Faults.{or_fault, Then}
use Rattle.policy_source.specs.Source.{SourceModel}
use Rattle.policy_text.specs.declared.rules.RuleSource.{RuleSource}
use Rattle.policy_text.specs.declared.rules.RuleSource.TheVariants as said
use Rattle.shfl_policy.proofs.LoadedPolicies.{loaded-once}
use Rattle.shfl_sched.specs.declared.schedule.Rule.{Rule}
use Rattle.shfl_sched.specs.declared.schedule.Rule.TheVariants as rules
use Rattle.shfl_sched.specs.Schedules.{ScheduleModel}
use Rattle.shfl_sched.specs.Lines.{policy_in}
use Rattle.shfl_sched.specs.declared.faults.TheConstants.{POLICY}
use Rattle.shfl_sched.specs.Grammar.{Front, front_in, policy_line, LoadsPolicy, ReadsSaid, ReadsRule, schedule_in, ReadsSchedule}

policy-once : (profile : Profile) (line : ℕ) (source : SourceModel) (a b : Result Rule Fault) → LoadsPolicy profile line source a → LoadsPolicy profile line source b → a ≡ b
policy-once profile line source (Ok a) (Ok b) h k =
    let same = loaded-once 0 profile source h.0 k.0 h.1 k.1 in
    ap (λ (r : Rule). Ok r) (h.2 ∙ ap rules.Program same ∙ sym k.2)
policy-once profile line source (Ok a) (Err e) h k = absurd (k.0 h.0 h.1)
policy-once profile line source (Err e) (Ok b) h k = absurd (h.0 k.0 k.1)
policy-once profile line source (Err e) (Err f) h k = ap (λ (x : Fault). Err x) (h.1 ∙ sym k.1)

said-once : (profile : Profile) (line : ℕ) (r : RuleSource) (a b : Result Rule Fault) → ReadsSaid profile line r a → ReadsSaid profile line r b → a ≡ b
said-once profile line said.Never a b h k = h ∙ sym k
said-once profile line said.Always a b h k = h ∙ sym k
said-once profile line said.Socket a b h k = h ∙ sym k
said-once profile line (said.Program source) a b h k = policy-once profile line source a b h k

-- a policy line says one rule, or has one fault
rule-once : (profile : Profile) (line : ℕ) (text : List ℕ) (a b : Result Rule Fault) → ReadsRule profile line text a → ReadsRule profile line text b → a ≡ b
unfolding ReadsRule
rule-once profile line text a b h k = by_line (or_fault line POLICY (policy_in (words text))) h k
  where
    by_line : (r : Result RuleSource Fault) → Then r (ReadsSaid profile line) a → Then r (ReadsSaid profile line) b → a ≡ b
    by_line (Ok r) h k = said-once profile line r a b h k
    by_line (Err e) h k = h ∙ sym k

-- what follows the front of a schedule
abbrev Behind : Front → Result ScheduleModel Fault → Type 0
Behind f read = (rule : Result Rule Fault) × ReadsRule f.profile (policy_line f) f.policy rule × (read ≡ schedule_in f rule)

pub reads-once : (bytes : List ℕ) (a b : Result ScheduleModel Fault) → ReadsSchedule bytes a → ReadsSchedule bytes b → a ≡ b
reads-once bytes a b h k = by_front (front_in (pieces bytes)) h k
  where
    by_front : (r : Result Front Fault) → Then r Behind a → Then r Behind b → a ≡ b
    by_front (Ok f) h k = h.2 ∙ ap (schedule_in f) (rule-once f.profile (policy_line f) f.policy h.0 k.0 h.1 k.1) ∙ sym k.2
    by_front (Err e) h k = h ∙ sym k
