-- A call of a pass: when it begins, and when it gains the lock.
use Rattle.std.specs.Prelude.{ℕ, zero, suc, ◌+◌, ◌*◌, ◌%◌, ◌^◌, ◌==◌, ◌&&◌, List, Bool, true, false, cond, nat_lt, bit_xor, Option, Some, None, slice_index_or, slice_set}
use Rattle.shfl_line.specs.declared.events.Form.{Form}
use Rattle.shfl_line.specs.declared.events.Mode.{Mode}
use Rattle.shfl_line.specs.declared.events.Mode.TheVariants.{Write, Read}
use Rattle.shfl_core.specs.Plan as core
use Rattle.sim_setup.specs.declared.lines.Line.{Line}
use Rattle.sim_setup.specs.declared.setup.Core.{Core}
use Rattle.sim_setup.specs.declared.setup.Costs.{Costs}
use Rattle.sim_setup.specs.declared.setup.Setup.{Setup}
use Rattle.sim_setup.specs.Clock.{plus, later}
use Rattle.sim_setup.specs.Draws.{reads, after_draw}
use Rattle.sim_setup.specs.Lines.{touched}
use Rattle.sim_setup.specs.Places.{line_at}
use Rattle.sim_model.specs.declared.counts.Reaches.{Reaches}
use Rattle.sim_model.specs.declared.counts.Served.{Served}
use Rattle.sim_model.specs.declared.counts.Order.{Order}
use Rattle.sim_model.specs.Counts.{reached, plus_if}
use Rattle.sim_model.specs.Firsts.{mapped}

abbrev pub nobody_served : Served
nobody_served = record { gained = 0; reads = 0; stolen = 0; waited = 0; longest = 0; overtaken = 0; waits = false; called = 0; passed = 0 }

abbrev pub served_at : List Served → ℕ → Served
served_at served p = slice_index_or served p nobody_served

abbrev pub shares : Form → Bool
shares form = core.shares form

-- how a call takes the lock: in a form with readers that is drawn
unfoldable pub mode_drawn : Setup → ℕ → Mode
mode_drawn s draw = cond (shares s.rules.form && reads s.work.reads draw) Read Write

unfoldable pub draw_after : Setup → ℕ → ℕ
draw_after s draw = cond (shares s.rules.form) (after_draw draw) draw

-- the pass calls
abbrev pub called : Served → ℕ → Served
called served at = record served { waits = true; called = at; passed = 0 }

-- one more call passes it
abbrev pub passed_once : Served → Served
passed_once served = record served { passed = plus served.passed 1; overtaken = later served.overtaken (plus served.passed 1) }

-- a call that began then has gained: it passes whoever has waited for longer
abbrev pub overtaken : ℕ → Served → Served
overtaken call served = cond (served.waits && nat_lt served.called call) (passed_once served) served

-- it passes those of the first n passes
abbrev pub all_overtaken : ℕ → ℕ → List Served → List Served
all_overtaken n call served = mapped (overtaken call) n served

-- the pass has gained, after a wait
unfoldable pub gained : Served → ℕ → Bool → Bool → Served
gained served wait read stolen = record served {
  gained = plus served.gained 1;
  reads = plus_if served.reads read;
  stolen = plus_if served.stolen stolen;
  waited = plus served.waited wait;
  longest = later served.longest wait;
  waits = false;
}

abbrev pub is_socket : Option ℕ → ℕ → Bool
is_socket None socket = false
is_socket (Some last) socket = last == socket

-- one gain more in the order
unfoldable pub in_order : Order → ℕ → ℕ → Order
in_order o p socket = record {
  gained = plus o.gained 1;
  same = plus_if o.same (is_socket o.last socket);
  last = Some socket;
  hash = (bit_xor o.hash p * 0x100000001b3) % 2 ^ 64;
  first = cond (nat_lt o.gained 16) (slice_set o.first o.gained p) o.first;
}

-- the lines once some of the data were touched, the accesses counted, and when they ended
pub record DataTouched : Type 0 where
  pub lines : List Line
  pub reaches : Reaches
  pub ends : ℕ

-- one line of data more
abbrev pub touched_next : Costs → Core → Bool → DataTouched → ℕ → DataTouched
touched_next costs core load d datum = let t = touched costs core load d.ends (line_at d.lines (1026 + datum)) in record {
  lines = slice_set d.lines (1026 + datum) t.line;
  reaches = reached d.reaches t.reach;
  ends = t.ends;
}

-- the first n lines of data are touched one after another, from a time on
abbrev pub data_touched : Costs → Core → Bool → ℕ → List Line → Reaches → ℕ → DataTouched
data_touched costs core load at lines reaches zero = record { lines = lines; reaches = reaches; ends = at }
data_touched costs core load at lines reaches (suc n) = touched_next costs core load (data_touched costs core load at lines reaches n) n
