-- Every number by which a world names a pass is that of one of its passes.
use Rattle.std.specs.Prelude.{◌≡◌, ℕ, ◌<◌, ◌≤◌, length}
use mathlib.Core.Option.{some}
use lib.ListN.{get_elem?}
use Rattle.shfl_core.specs.declared.phase.Registers.{Registers}
use Rattle.shfl_core.specs.declared.phase.Nap.{Nap}
use Rattle.shfl_core.specs.declared.phase.Nap.TheVariants.{Ring}
use Rattle.shfl_core.specs.declared.phase.PassState.{PassState}
use Rattle.shfl_core.specs.declared.words.Word.{Word}
use Rattle.shfl_core.specs.declared.words.Word.TheVariants.{Tail, Next}
use Rattle.shfl_core.specs.Words.{look, wide, most_passes}
use Rattle.shfl_core.specs.Worlds.{World}

-- the registers of the pass p: its number, and the seven by which it names passes
abbrev pub NamesBelow : ℕ → ℕ → Registers → Type 0
NamesBelow count p r = (r.me ≡ p) × (r.before < count) × (r.prev < count) × (r.last < count)
    × (r.first < count) × (r.cand < count) × (r.after < count) × (r.heir < count)

abbrev pub WakesBelow : ℕ → Nap → Type 0
WakesBelow count (Ring whom) = whom < count
WakesBelow count _ = Unit {0}

-- where the pass p stands
pub record IsInBounds (count p : ℕ) (q : PassState) : Type 0 where
  pub names : NamesBelow count p q.reg
  pub wakes : WakesBelow count q.nap

-- a next word or the tail word is 0 or a pass plus 1
abbrev pub LinkBelow : ℕ → Word → ℕ → Type 0
LinkBelow count Tail n = n ≤ count
LinkBelow count (Next p) n = n ≤ count
LinkBelow count _ n = Unit {0}

pub record HasBounds (w : World) : Type 0 where
  -- each pass has its words
  pub room : length w.words ≡ wide (length w.passes)
  pub few : length w.passes ≤ most_passes
  pub links : (v : Word) → LinkBelow (length w.passes) v (look w.words v)
  pub passes : (p : ℕ) (q : PassState) → get_elem? w.passes p ≡ some q → IsInBounds (length w.passes) p q
