-- A step of a pass: what it is on the lock, and what it costs.
use Rattle.std.specs.Prelude.{ℕ, ◌&&◌, List, Bool, true, false, cond, Option, Some, None, slice_index, slice_set}
use Rattle.shfl_core.specs.declared.phase.Phase.{Phase}
use Rattle.shfl_core.specs.declared.phase.Phase.TheVariants as phases
use Rattle.shfl_core.specs.declared.phase.Nap.{Nap}
use Rattle.shfl_core.specs.declared.phase.PassState.{PassState}
use Rattle.shfl_core.specs.declared.phase.Ask.{Ask}
use Rattle.shfl_core.specs.Plan as core
use Rattle.shfl_core.specs.Plan.{plan, is_idle, is_resting}
use Rattle.shfl_core.specs.Runner.{is_parked}
use Rattle.shfl_core.specs.Waiting.{ask}
use Rattle.shfl_core.specs.Words.{site}
use Rattle.shfl_core.specs.Worlds.{World, Step, known, after_move}
use Rattle.shfl_line.specs.declared.words.Attr.{Attr}
use Rattle.sim_setup.specs.declared.adviser.Advice.{Advice}
use Rattle.sim_setup.specs.declared.lines.Touched.{Touched}
use Rattle.sim_setup.specs.declared.setup.Costs.{Costs}
use Rattle.sim_setup.specs.declared.setup.Setup.{Setup}
use Rattle.sim_setup.specs.Advices.{advised}
use Rattle.sim_setup.specs.Clock.{plus, times, later}
use Rattle.sim_setup.specs.Draws.{thought, after_thought}
use Rattle.sim_setup.specs.Lines.{touched}
use Rattle.sim_setup.specs.Places.{line_of, is_load, rung, line_at, core_at}
use Rattle.sim_model.specs.declared.bench.Bench.{Bench}
use Rattle.sim_model.specs.declared.steps.Made.{Made}
use Rattle.sim_model.specs.declared.steps.Rest.{Rest}
use Rattle.sim_model.specs.declared.steps.Rest.TheVariants.{Spins, Sleeps, Holds, Away, Goes}
use Rattle.sim_model.specs.declared.turns.Stand.{Stand}
use Rattle.sim_model.specs.declared.turns.Stand.TheVariants as stands
use Rattle.sim_model.specs.declared.turns.Turn.TheVariants as turns
use Rattle.sim_model.specs.Counts.{is_asked, with_access, with_step}
use Rattle.sim_model.specs.Turns.{stand_at, all_woken}

abbrev pub is_awake : Nap → Bool
is_awake nap = core.is_awake nap

-- what the step is answered that a pass makes
abbrev pub advice_at : Setup → (Attr → Ask → Advice) → World → ℕ → Advice
advice_at s answers w p = advised (answers (core_at s.cores p).attr) (ask s.rules (known w.passes p))

-- the step that a pass makes
abbrev pub made_by : Setup → (Attr → Ask → Advice) → World → ℕ → Made
made_by s answers w p = record {
  before = known w.passes p;
  after = known (after_move s.rules w (Step p (advice_at s answers w p).yes)).passes p;
  ask = ask s.rules (known w.passes p);
  advice = advice_at s answers w p;
  access = plan s.rules p (known w.passes p);
}

abbrev pub at_look : Phase → Bool
at_look phases.Look = true
at_look _ = false

abbrev pub at_peek : Phase → Bool
at_peek phases.Peek = true
at_peek _ = false

abbrev pub at_head_look : Phase → Bool
at_head_look phases.HeadLook = true
at_head_look _ = false

abbrev pub at_late : Phase → Bool
at_late phases.Late = true
at_late _ = false

-- a pass that was in this phase and still is has looked in vain
abbrev pub is_same_look : Phase → Phase → Bool
is_same_look phases.Look g = at_look g
is_same_look phases.Peek g = at_peek g
is_same_look phases.HeadLook g = at_head_look g
is_same_look phases.Late g = at_late g
is_same_look _ g = false

-- the first step of a call
abbrev pub is_first : Phase → Bool
is_first phases.Steal = true
is_first phases.Count = true
is_first _ = false

-- what a pass does after a step from here to there
unfoldable pub rest_of : PassState → PassState → Rest
rest_of q r =
    cond (is_parked q.nap && is_parked r.nap) Sleeps
    (cond (is_awake q.nap && is_awake r.nap && is_same_look q.phase r.phase) Spins
    (cond (is_resting r) (Holds (is_first q.phase))
    (cond (is_idle r.phase) Away Goes)))

-- when a step has ended whose access has: what the pass does besides, the question and the program's instructions
unfoldable pub ended : Costs → Made → ℕ → ℕ
ended costs m ends = plus (plus (plus ends costs.local) (cond (is_asked m.ask) costs.ask 0)) (times costs.insn m.advice.insns)

-- the access of a step that begins at a time
unfoldable pub touched_by : Setup → Bench → ℕ → Made → ℕ → Touched
touched_by s b p m at = touched s.costs (core_at s.cores p) (is_load m.access) at (line_at b.lines (line_of s.layout (site m.access)))

-- the access is made and counted, and whoever spins on the line looks again, unless it is a load
unfoldable pub with_touch : Setup → Bench → ℕ → Made → ℕ → Bench
with_touch s b p m at = let t = touched_by s b p m at in record b {
  lines = slice_set b.lines (line_of s.layout (site m.access)) t.line;
  counts = with_step (with_access b.counts (site m.access) t.reach) m;
  stands = cond (is_load m.access) b.stands (all_woken s.passes (line_of s.layout (site m.access)) t.ends b.stands);
}

-- a pass that sleeps is woken: when the step has ended that does it
abbrev pub waking_ends : Costs → Stand → ℕ → ℕ
waking_ends costs (stands.Sleeps from) ends = plus ends costs.wake
waking_ends costs stand ends = ends

unfoldable pub rung_ends : Costs → List Stand → Option ℕ → ℕ → ℕ
rung_ends costs standing None ends = ends
rung_ends costs standing (Some whom) ends = waking_ends costs (stand_at standing whom) ends

-- a pass that sleeps gets up once it may be woken
abbrev pub raised : Costs → List Stand → ℕ → Stand → ℕ → List Stand
raised costs standing whom (stands.Sleeps from) ends =
    slice_set standing whom (stands.Due (plus (later (plus ends costs.wake) from) costs.rise) turns.Step)
raised costs standing whom stand ends = standing

unfoldable pub with_ring : Costs → List Stand → Option ℕ → ℕ → List Stand
with_ring costs standing None ends = standing
with_ring costs standing (Some whom) ends = raised costs standing whom (stand_at standing whom) ends

-- how a pass stands after a step that has ended then
unfoldable pub stand_after : Setup → Rest → ℕ → ℕ → ℕ → Stand
stand_after s Spins line ends draw = stands.Spins line ends
stand_after s Sleeps line ends draw = stands.Sleeps (plus ends s.costs.park)
stand_after s (Holds stolen) line ends draw = stands.Due ends (turns.Gain stolen)
stand_after s Away line ends draw = stands.Due (plus ends (thought s.work.think draw)) (turns.Call 0)
stand_after s Goes line ends draw = stands.Due ends turns.Step

-- only a pass that has given the lock back draws how long it thinks
unfoldable pub draw_after : Setup → Rest → ℕ → ℕ
draw_after s Away draw = after_thought s.work.think draw
draw_after s rest draw = draw

-- the wakeup of a step, and how its pass stands then
unfoldable pub with_stand : Setup → Bench → ℕ → Made → ℕ → Bench
with_stand s b p m ends = record b {
  stands = slice_set (with_ring s.costs b.stands (rung m.access) ends) p
      (stand_after s (rest_of m.before m.after) (line_of s.layout (site m.access)) (rung_ends s.costs b.stands (rung m.access) ends) (slice_index b.draws p));
  draws = slice_set b.draws p (draw_after s (rest_of m.before m.after) (slice_index b.draws p));
}

-- what a step comes to whose access begins at a time
abbrev pub settled : Setup → Bench → ℕ → Made → ℕ → Bench
settled s b p m at = with_stand s (with_touch s b p m at) p m (ended s.costs m (touched_by s b p m at).ends)
