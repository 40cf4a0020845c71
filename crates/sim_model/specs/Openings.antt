-- How a run opens: who has which line, and how each pass thinks before its first call.
use Rattle.std.specs.Prelude.{ℕ, zero, suc, ◌+◌, List, None, replicate, slice_set}
use Rattle.sim_setup.specs.declared.lines.Line.{Line}
use Rattle.sim_setup.specs.declared.setup.Layout.{Layout}
use Rattle.sim_setup.specs.declared.setup.Layout.TheVariants.{Packed}
use Rattle.sim_setup.specs.declared.setup.Setup.{Setup}
use Rattle.sim_setup.specs.Draws.{seeded, thought, after_thought}
use Rattle.sim_setup.specs.Sets.{core_set}
use Rattle.sim_model.specs.declared.bench.Bench.{Bench}
use Rattle.sim_model.specs.declared.counts.Reaches.{Reaches}
use Rattle.sim_model.specs.declared.counts.Counts.{Counts}
use Rattle.sim_model.specs.declared.counts.Order.{Order}
use Rattle.sim_model.specs.declared.counts.Served.{Served}
use Rattle.sim_model.specs.declared.turns.Stand.{Stand}
use Rattle.sim_model.specs.declared.turns.Stand.TheVariants.{Due, Sleeps}
use Rattle.sim_model.specs.declared.turns.Turn.TheVariants.{Call}
use Rattle.sim_model.specs.Calls.{nobody_served}

-- the first core has every line; then the first n passes have those of their own words
abbrev pub lines_below : ℕ → List Line
lines_below zero = replicate 1090 (record { has = core_set 0; free = 0 })
lines_below (suc n) = slice_set (lines_below n) (n + 2) (record { has = core_set n; free = 0 })

-- where words of several passes share a line, the first core has it
unfoldable pub opening_lines : Layout → ℕ → List Line
opening_lines Packed n = lines_below 0
opening_lines layout n = lines_below n

-- the first n passes think before their first call
abbrev pub stands_below : Setup → ℕ → List Stand
stands_below s zero = replicate 1024 (Sleeps 0)
stands_below s (suc n) = slice_set (stands_below s n) n (Due (thought s.work.think (seeded s.seed n)) (Call 0))

abbrev pub draws_below : Setup → ℕ → List ℕ
draws_below s zero = replicate 1024 0
draws_below s (suc n) = slice_set (draws_below s n) n (after_thought s.work.think (seeded s.seed n))

abbrev pub no_reaches : Reaches
no_reaches = record { hits = 0; near = 0; far = 0 }

abbrev pub no_counts : Counts
no_counts = record {
  steps = 0;
  rounds = 0;
  asked = 0;
  yes = 0;
  insns = 0;
  relinks = 0;
  parks = 0;
  rings = 0;
  lock = no_reaches;
  tail = no_reaches;
  node = no_reaches;
  «data» = no_reaches;
  tried = no_reaches;
}

-- nobody has gained: the hash is FNV's offset basis
abbrev pub no_order : Order
no_order = record { gained = 0; same = 0; last = None; hash = 0xcbf29ce484222325; first = replicate 16 0 }

-- nobody has gained
unfoldable pub opening_served : List Served
opening_served = replicate 1024 nobody_served

abbrev pub opening_bench : Setup → Bench
opening_bench s = record {
  stands = stands_below s s.passes;
  lines = opening_lines s.layout s.passes;
  draws = draws_below s s.passes;
  counts = no_counts;
  served = opening_served;
  order = no_order;
}
