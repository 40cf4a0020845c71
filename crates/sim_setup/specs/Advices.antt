-- What a step is answered.
use Rattle.std.specs.Prelude.{Bool, true, false, ◌==◌}
use Rattle.shfl_line.specs.declared.words.Attr.{Attr}
use Rattle.shfl_core.specs.declared.phase.Ask.{Ask}
use Rattle.shfl_core.specs.declared.phase.Ask.TheVariants.{Nothing, Should}
use Rattle.sim_setup.specs.declared.adviser.Advice.{Advice}
use Rattle.sim_setup.specs.declared.built_in.BuiltIn.{BuiltIn}
use Rattle.sim_setup.specs.declared.built_in.BuiltIn.TheVariants.{Never, Always, Socket}

-- a step that asks nothing gets no, and no instruction is run
abbrev pub advised : (Ask → Advice) → Ask → Advice
advised answers Nothing = record { yes = false; insns = 0 }
advised answers ask = answers ask

-- whether a waiter is let into the group of the asking pass
abbrev pub joins : BuiltIn → Attr → Attr → Bool
joins Never own waiter = false
joins Always own waiter = true
joins Socket own waiter = own.socket == waiter.socket

-- the policies that need no program skip no round, and run no instruction
abbrev pub built_in : BuiltIn → Attr → Ask → Advice
built_in policy own (Should waiter batch) = record { yes = joins policy own waiter; insns = 0 }
built_in policy own _ = record { yes = false; insns = 0 }
