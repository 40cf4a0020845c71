-- What the layers over shared words rest on: a planned word is there, a told word has its form, and a pass that has
-- entered or is about to leave is still seen as idle or as a holder.
use Rattle.std.specs.Prelude.{◌≡◌, ℕ, ◌<◌, Bool, true, false}
use mathlib.Core.Option.{some}
use lib.ListN.{get_elem?}
use Rattle.shfl_line.specs.declared.events.Form.{Form}
use Rattle.shfl_line.specs.declared.events.Mode.{Mode}
use Rattle.shfl_line.specs.declared.events.LineEvent.TheVariants.{Nothing}
use Rattle.shfl_core.specs.declared.phase.Phase.TheVariants.{Idle}
use Rattle.shfl_core.specs.declared.phase.Nap.TheVariants.{Ring}
use Rattle.shfl_core.specs.declared.phase.PassState.{PassState}
use Rattle.shfl_core.specs.declared.phase.Rules.{Rules}
use Rattle.shfl_core.specs.declared.words.Word.{Word}
use Rattle.shfl_core.specs.declared.words.Word.TheVariants.{Bell}
use Rattle.shfl_core.specs.Words.{look, index, site, wide, told, is_store, NamesPass}
use Rattle.shfl_core.specs.Plan.{plan, is_idle, is_resting}
use Rattle.shfl_core.specs.Take.{take, entry, exit, acquired, released}
use Rattle.shfl_core.specs.Waiting.{MayUse}
use Rattle.shfl_core.specs.Worlds.{World, placed_at, stepped}
use Rattle.shfl_core.specs.Events.{event}
use Rattle.shfl_core.specs.Lawful.{Terms, count, Lawful, Advances, Formed, InRange}

-- in a lawful world the word that a pass plans to touch is one of the world's
abbrev pub InRangeLaw : Terms → Type 0
InRangeLaw t = (w : World) (p : ℕ) (q : PassState) → Lawful t w → get_elem? w.passes p ≡ some q → InRange t p q

-- what an operation tells has the form of its word, but for a store, which tells what it stored
abbrev pub ToldLaw : Terms → Type 0
ToldLaw t = (w : World) (p : ℕ) (q : PassState) → Lawful t w → is_store (plan t.rules p q) ≡ false
    → Formed (site (plan t.rules p q)) (told (plan t.rules p q) (look w.words (site (plan t.rules p q))))

-- a word that has its form names a pass where it should
abbrev pub FormedNames : Type 0
FormedNames = (v : Word) (n : ℕ) → Formed v n → NamesPass v n

-- so what an operation tells is what a step may find
abbrev pub ToldNames : Terms → Type 0
ToldNames t = (w : World) (p : ℕ) (q : PassState) → Lawful t w → is_store (plan t.rules p q) ≡ false
    → NamesPass (site (plan t.rules p q)) (told (plan t.rules p q) (look w.words (site (plan t.rules p q))))

-- a pass's own wakeup word is one of the world's, and so is that of a pass that it is about to wake
pub record BellsInRange (t : Terms) : Type 0 where
  pub own : (w : World) (p : ℕ) (q : PassState) → Lawful t w → get_elem? w.passes p ≡ some q → index (Bell p) < wide (count t)
  pub woken : (w : World) (p : ℕ) (q : PassState) (whom : ℕ) → Lawful t w → get_elem? w.passes p ≡ some q → q.nap ≡ Ring whom → whom < count t

-- a step that stores looks at nothing: what its operation tells serves as well as what it found
abbrev pub StoresBlindly : Type 0
StoresBlindly = (rules : Rules) (p : ℕ) (q : PassState) (found : ℕ) (choice : Bool) → take rules p q (told (plan rules p q) found) choice ≡ take rules p q found choice

-- how a pass is seen by others: as it stands; or still idle, where it has entered and made no step; or still as a
-- holder, where it leaves and has made no step
pub data SeenAs (form : Form) (own seen : PassState) : Type 0 where
  Alike : own ≡ seen → SeenAs form own seen
  Enters : (m : Mode) → MayUse form m → seen.phase ≡ Idle → own ≡ record seen { phase = entry m; reg = record seen.reg { mode = m } } → SeenAs form own seen
  Leaves : is_resting seen ≡ true → own ≡ record seen { phase = exit seen.reg.mode } → SeenAs form own seen

-- a world that is lawful as the pass is seen is lawful as it stands, and shows the same
abbrev pub SeenLaw : Terms → Type 0
SeenLaw t = (w : World) (p : ℕ) (own seen : PassState) (ok : Lawful t w) → get_elem? w.passes p ≡ some seen → SeenAs t.rules.form own seen → Advances t w ok Nothing (placed_at w p own)

-- an acquire and a release leave how the pass is seen
pub record MovesUnseen (form : Form) : Type 0 where
  pub acquire : (m : Mode) (own seen : PassState) → MayUse form m → SeenAs form own seen → SeenAs form (acquired m own) seen
  pub release : (own seen : PassState) → SeenAs form own seen → SeenAs form (released own) seen

-- an idle pass is seen as it stands
abbrev pub IdleAlike : Form → Type 0
IdleAlike form = (own seen : PassState) → SeenAs form own seen → is_idle own.phase ≡ true → own ≡ seen

-- the step of a pass as it stands, from a world that is lawful as the pass is seen: it is the named step of the line
abbrev pub OwnStepLaw : Terms → Type 0
OwnStepLaw t = (w : World) (p : ℕ) (own seen : PassState) (ok : Lawful t w) → get_elem? w.passes p ≡ some seen → SeenAs t.rules.form own seen → (choice : Bool)
    → Advances t w ok (event t.rules p own (look w.words (site (plan t.rules p own)))) (stepped t.rules w p own choice)

-- and the word that it plans to touch is one of the world's
abbrev pub OwnRangeLaw : Terms → Type 0
OwnRangeLaw t = (w : World) (p : ℕ) (own seen : PassState) → Lawful t w → get_elem? w.passes p ≡ some seen → SeenAs t.rules.form own seen → InRange t p own
