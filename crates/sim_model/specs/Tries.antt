-- The attempts that a call makes before it queues.
use Rattle.std.specs.Prelude.{ℕ, ◌+◌, ◌==◌, ◌&&◌, not, Bool, false, cond, nat_lt, slice_index, slice_set}
use Rattle.shfl_line.specs.declared.events.Mode.{Mode}
use Rattle.shfl_line.specs.declared.events.Mode.TheVariants.{Write, Read}
use Rattle.shfl_core.specs.declared.words.Word.TheVariants.{Lock}
use Rattle.shfl_core.specs.Plan.{is_resting}
use Rattle.shfl_core.specs.Take.{attempted}
use Rattle.shfl_core.specs.Words.{look}
use Rattle.shfl_core.specs.Worlds.{World, known}
use Rattle.sim_setup.specs.declared.setup.Core.{Core}
use Rattle.sim_setup.specs.declared.setup.Costs.{Costs}
use Rattle.sim_setup.specs.declared.setup.Setup.{Setup}
use Rattle.sim_setup.specs.declared.setup.Tries.{Tries}
use Rattle.sim_setup.specs.Clock.{plus, times}
use Rattle.sim_setup.specs.Lines.{touched}
use Rattle.sim_setup.specs.Places.{line_of, line_at, core_at}
use Rattle.sim_model.specs.declared.bench.Bench.{Bench}
use Rattle.sim_model.specs.declared.counts.Served.{Served}
use Rattle.sim_model.specs.declared.tries.Tried.{Tried}
use Rattle.sim_model.specs.declared.turns.Stand.TheVariants.{Due}
use Rattle.sim_model.specs.declared.turns.Turn.TheVariants.{Call}
use Rattle.sim_model.specs.Calls.{served_at, mode_drawn, called}
use Rattle.sim_model.specs.Counts.{reached}
use Rattle.sim_model.specs.Turns.{all_woken}

-- an attempt of the pass would take the lock: its one operation finds the lock word so
abbrev pub wins : World → ℕ → Mode → Bool
wins w p m = is_resting (attempted m (known w.passes p).reg (look w.words Lock))

-- how the pass takes the lock that calls: the attempts draw nothing more
abbrev pub mode_wanted : Setup → Bench → ℕ → Mode
mode_wanted s b p = mode_drawn s (slice_index b.draws p)

-- after so many attempts in vain a call makes one more, and that one is in vain too
abbrev pub in_vain : Setup → World → Bench → ℕ → ℕ → Bool
in_vain s w b p tried = nat_lt tried s.tries.most && not (wins w p (mode_wanted s b p))

-- the wait of a call is measured from its first attempt
abbrev pub begun : Served → ℕ → ℕ → Served
begun served tried at = cond (tried == 0) (called served at) served

-- one operation more on the lock word; none is a load
unfoldable pub operated : Costs → Core → Tried → Tried
operated costs core x = let t = touched costs core false x.ends x.line in record { line = t.line; reaches = reached x.reaches t.reach; ends = t.ends }

-- the operations of an attempt in vain: one, and of a reader a second one, which takes its count back
abbrev pub all_operated : Costs → Core → Mode → Tried → Tried
all_operated costs core Write x = operated costs core x
all_operated costs core Read x = operated costs core (operated costs core x)

-- what they come to, from a time on
unfoldable pub tried_at : Setup → Bench → ℕ → ℕ → Tried
tried_at s b p at = all_operated s.costs (core_at s.cores p) (mode_wanted s b p)
    (record { line = line_at b.lines (line_of s.layout Lock); reaches = b.counts.tried; ends = at })

-- how many times as long as the first the pause is after an attempt with so many before it
abbrev pub pause_factor : ℕ → ℕ
pause_factor tried = cond (tried == 0) 1 (cond (tried == 1) 2 (cond (tried == 2) 4 8))

unfoldable pub pause_after : Tries → ℕ → ℕ
pause_after tries tried = times tries.pause (pause_factor tried)

-- an attempt in vain: whoever spins on the line looks again, and after a pause the pass goes on with its call
unfoldable pub with_attempt : Setup → Bench → ℕ → ℕ → ℕ → Bench
with_attempt s b p tried at = let x = tried_at s b p at in record b {
  lines = slice_set b.lines (line_of s.layout Lock) x.line;
  counts = record b.counts { tried = x.reaches };
  served = slice_set b.served p (begun (served_at b.served p) tried at);
  stands = slice_set (all_woken s.passes (line_of s.layout Lock) x.ends b.stands) p
      (Due (plus (plus x.ends s.costs.local) (pause_after s.tries tried)) (Call (tried + 1)));
}
