-- What the rule of a schedule answers to the questions of a round.
use Rattle.std.specs.Prelude.{ℕ, Bool, true, false, ◌==◌}
use Rattle.shfl_line.specs.declared.words.Attr.{Attr}
use Rattle.shfl_core.specs.declared.phase.Ask.{Ask}
use Rattle.shfl_core.specs.declared.phase.Ask.TheVariants.{Nothing, Skip, Should}
use Rattle.shfl_policy.specs.Policies.{should_of, skip_of}
use Rattle.shfl_sched.specs.declared.schedule.Rule.{Rule}
use Rattle.shfl_sched.specs.declared.schedule.Rule.TheVariants.{Never, Always, Socket, Program}

-- whether the round ends before its first waiter: only a program may say so
abbrev pub skips : Rule → Attr → ℕ → Bool
skips Never anchor batch = false
skips Always anchor batch = false
skips Socket anchor batch = false
skips (Program policy) anchor batch = skip_of policy anchor batch

-- whether the waiter joins the batch of the asking pass
abbrev pub groups : Rule → Attr → Attr → ℕ → Bool
groups Never anchor waiter batch = false
groups Always anchor waiter batch = true
groups Socket anchor waiter batch = anchor.socket == waiter.socket
groups (Program policy) anchor waiter batch = should_of policy anchor waiter batch

-- the choice at a step of a pass with these attributes; a step that asks nothing gets no
unfoldable pub answers : Rule → Attr → Ask → Bool
answers rule own Nothing = false
answers rule own (Skip batch) = skips rule own batch
answers rule own (Should waiter batch) = groups rule own waiter batch
