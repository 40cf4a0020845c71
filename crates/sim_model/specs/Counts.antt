-- What is counted of a run: at each access and at each step.
use Rattle.std.specs.Prelude.{ℕ, Bool, true, false, cond, ◌&&◌}
use Rattle.shfl_core.specs.declared.words.Word.{Word}
use Rattle.shfl_core.specs.declared.words.Word.TheVariants.{Lock, Tail, Bell}
use Rattle.shfl_core.specs.declared.words.Access.{Access}
use Rattle.shfl_core.specs.declared.words.Access.TheVariants.{Store}
use Rattle.shfl_core.specs.declared.phase.Ask.{Ask}
use Rattle.shfl_core.specs.declared.phase.Ask.TheVariants.{Nothing, Skip}
use Rattle.shfl_core.specs.declared.phase.Phase.{Phase}
use Rattle.shfl_core.specs.declared.phase.Phase.TheVariants.{Place}
use Rattle.shfl_core.specs.declared.phase.Nap.{Nap}
use Rattle.shfl_core.specs.declared.phase.Nap.TheVariants.{Doze}
use Rattle.shfl_core.specs.Plan.{is_awake}
use Rattle.shfl_core.specs.Runner.{is_parked}
use Rattle.sim_setup.specs.declared.lines.Reach.{Reach}
use Rattle.sim_setup.specs.declared.lines.Reach.TheVariants.{Hit, Near, Far}
use Rattle.sim_setup.specs.Clock.{plus}
use Rattle.sim_model.specs.declared.counts.Reaches.{Reaches}
use Rattle.sim_model.specs.declared.counts.Counts.{Counts}
use Rattle.sim_model.specs.declared.steps.Made.{Made}

-- one more where the test holds
abbrev pub plus_if : ℕ → Bool → ℕ
plus_if n test = cond test (plus n 1) n

abbrev pub reached : Reaches → Reach → Reaches
reached r Hit = record r { hits = plus r.hits 1 }
reached r Near = record r { near = plus r.near 1 }
reached r Far = record r { far = plus r.far 1 }

-- an access to a word is counted with those to the lock word, to the tail word, or to the passes' words
unfoldable pub with_access : Counts → Word → Reach → Counts
with_access c Lock reach = record c { lock = reached c.lock reach }
with_access c Tail reach = record c { tail = reached c.tail reach }
with_access c _ reach = record c { node = reached c.node reach }

abbrev pub is_skip : Ask → Bool
is_skip (Skip batch) = true
is_skip _ = false

abbrev pub is_asked : Ask → Bool
is_asked Nothing = false
is_asked _ = true

abbrev pub is_place : Phase → Bool
is_place Place = true
is_place _ = false

abbrev pub is_dozing : Nap → Bool
is_dozing Doze = true
is_dozing _ = false

abbrev pub is_bell : Word → Bool
is_bell (Bell p) = true
is_bell _ = false

-- a waiter is moved up by the store that puts it behind the batch
abbrev pub is_relink : Made → Bool
is_relink m = is_place m.before.phase && is_awake m.before.nap

-- a waiter goes to sleep where it announces so and nobody has called it
abbrev pub is_park : Made → Bool
is_park m = is_dozing m.before.nap && is_parked m.after.nap

-- a waiter is woken by the store into its wakeup word
abbrev pub is_ring : Access → Bool
is_ring (Store w v) = is_bell w
is_ring _ = false

unfoldable pub with_step : Counts → Made → Counts
with_step c m = record c {
  steps = plus c.steps 1;
  rounds = plus_if c.rounds (is_skip m.ask);
  asked = plus_if c.asked (is_asked m.ask);
  yes = plus_if c.yes m.advice.yes;
  insns = plus c.insns m.advice.insns;
  relinks = plus_if c.relinks (is_relink m);
  parks = plus_if c.parks (is_park m);
  rings = plus_if c.rings (is_ring m.access);
}
