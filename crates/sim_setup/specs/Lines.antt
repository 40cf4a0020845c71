-- Cache lines: from how far one comes, and what an access to it costs.
use Rattle.std.specs.Prelude.{ℕ, ◌&&◌, ◌||◌, Bool, true, false, cond}
use Rattle.sim_setup.specs.declared.setup.Core.{Core}
use Rattle.sim_setup.specs.declared.setup.Costs.{Costs}
use Rattle.sim_setup.specs.declared.lines.Line.{Line}
use Rattle.sim_setup.specs.declared.lines.Reach.{Reach}
use Rattle.sim_setup.specs.declared.lines.Reach.TheVariants.{Hit, Near, Far}
use Rattle.sim_setup.specs.declared.lines.Touched.{Touched}
use Rattle.sim_setup.specs.Clock.{plus, later}
use Rattle.sim_setup.specs.Sets.{meets, is_within, joined}

-- the core needn't ask for the line: nobody else has it, or the core has it and only reads
abbrev pub is_hit : Core → Line → Bool → Bool
is_hit core line load = is_within line.has core.own || (load && meets line.has core.own)

-- the line comes from the core's own socket: to be read, from a core of it; to be changed, from cores of it alone
abbrev pub is_near : Core → Line → Bool → Bool
is_near core line true = meets line.has core.mates
is_near core line false = is_within line.has core.mates

abbrev pub reach_of : Core → Line → Bool → Reach
reach_of core line load = cond (is_hit core line load) Hit (cond (is_near core line load) Near Far)

abbrev pub way_of : Costs → Reach → ℕ
way_of costs Hit = costs.hit
way_of costs Near = costs.near
way_of costs Far = costs.far

abbrev pub cost_of : Costs → Reach → Bool → ℕ
cost_of costs reach load = plus (way_of costs reach) (cond load 0 costs.atomic)

-- a line that was lent at a time: to be read beside others, or to be changed, by this core alone
abbrev pub lent : Costs → Core → Bool → ℕ → ℕ → Line → Line
lent costs core true begins ends line = record { has = joined line.has core.own; free = plus begins costs.port }
lent costs core false begins ends line = record { has = core.own; free = ends }

-- an access that begins at a time: a line that the core has is there at once, another once it is free
abbrev pub touched_at : Costs → Core → Bool → ℕ → Line → Reach → Touched
touched_at costs core load at line Hit = record { reach = Hit; ends = plus at (cost_of costs Hit load); line = line }
touched_at costs core load at line reach =
    let begins = later at line.free in
    let ends = plus begins (cost_of costs reach load) in
    record { reach = reach; ends = ends; line = lent costs core load begins ends line }

unfoldable pub touched : Costs → Core → Bool → ℕ → Line → Touched
touched costs core load at line = touched_at costs core load at line (reach_of core line load)
