-- A waiter that parks, made of one that doesn't.
use Rattle.std.specs.Prelude.{◌≡◌, ℕ, ◌-◌, ◌*◌, ◌/◌, ◌%◌, false}
use Rattle.shfl_line.specs.declared.events.Form.{Form}
use Rattle.shfl_line.specs.declared.events.Form.TheVariants.{Spin, Rw, Park, RwPark}
use Rattle.shfl_core.specs.declared.phase.Nap.{Nap}
use Rattle.shfl_core.specs.declared.phase.Nap.TheVariants.{Awake}
use Rattle.shfl_core.specs.declared.words.Word.{Word}
use Rattle.shfl_core.specs.declared.words.Word.TheVariants.{State}
use Rattle.shfl_core.specs.Plan.{parks}
use Rattle.shfl_core.specs.Waiting.{Meaning}

-- the form with parking
abbrev pub parking : Form → Form
parking Spin = Park
parking Rw = RwPark
parking Park = Park
parking RwPark = RwPark

-- the waiter `inner` in that form, with this park state
abbrev pub parked : Meaning → Nap → Meaning
parked inner nap = record inner { rules = record inner.rules { form = parking inner.rules.form }; pass = record inner.pass { nap = nap } }

-- the inner waiter never parks
pub record Spins (inner : Meaning) : Type 0 where
  pub form : parks inner.rules.form ≡ false
  pub awake : inner.pass.nap ≡ Awake

-- the inner waiter sees state words without the two bits of parking
abbrev pub cleared : Word → ℕ → ℕ
cleared (State p) n = n - n / 4 % 4 * 4
cleared _ n = n
