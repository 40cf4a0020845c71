-- What a policy of a setup answers to the questions of a round, and how many instructions that takes.
use Rattle.std.specs.Prelude.{ℕ, List, Option, Some, None, false, not, ◌==◌}
use Rattle.bpf_isa.specs.declared.insn.Insn.{Insn}
use Rattle.bpf_run.specs.Meaning.{outcome}
use Rattle.shfl_line.specs.declared.words.Attr.{Attr}
use Rattle.shfl_core.specs.declared.phase.Ask.{Ask}
use Rattle.shfl_core.specs.declared.phase.Ask.TheVariants.{Nothing, Skip, Should}
use Rattle.shfl_policy.specs.Context.{context_of}
use Rattle.shfl_policy.specs.Policies.{PolicyModel, no_waiter}
use Rattle.sim_setup.specs.declared.adviser.Advice.{Advice}
use Rattle.sim_setup.specs.Advices.{built_in}
use Rattle.sim_text.specs.declared.setup.Rule.{Rule}
use Rattle.sim_text.specs.declared.setup.Rule.TheVariants.{Simple, Program}

-- a program says yes where its value isn't 0; a missing one says no, and runs no instruction
abbrev pub said_by : Option (List Insn) → List ℕ → Advice
said_by None context = record { yes = false; insns = 0 }
said_by (Some insns) context = record { yes = not ((outcome insns context).value == 0); insns = (outcome insns context).count }

-- the asking pass is the anchor
abbrev pub policy_advice : PolicyModel → Attr → Ask → Advice
policy_advice policy own Nothing = record { yes = false; insns = 0 }
policy_advice policy own (Skip batch) = said_by policy.skip (context_of own no_waiter batch)
policy_advice policy own (Should waiter batch) = said_by policy.should (context_of own waiter batch)

abbrev pub rule_advice : Rule → Attr → Ask → Advice
rule_advice (Simple rule) own ask = built_in rule own ask
rule_advice (Program policy) own ask = policy_advice policy own ask
