-- The table's rule: the one view is the whole lock, and the lock is lawful by the terms of its opening.
use Rattle.std.specs.Prelude.{◌≡◌, ℕ, List, [], ◌∷◌, Bool, length, slice_index}
use mathlib.Core.Option.{some}
use lib.ListN.{get_elem?}
use Rattle.atomic_table.specs.Table.{State, Me, Step}
use Rattle.shfl_line.specs.declared.events.Form.{Form}
use Rattle.shfl_core.specs.declared.phase.Rules.{Rules}
use Rattle.shfl_core.specs.declared.phase.PassState.{PassState}
use Rattle.shfl_core.specs.Words.{look, site, told}
use Rattle.shfl_core.specs.Plan.{plan}
use Rattle.shfl_core.specs.Worlds.{World, stepped}
use Rattle.shfl_core.specs.Lawful.{Terms, count, Lawful}
use Rattle.shfl_core.specs.Runner.{Lock}
use Rattle.shfl_laws.specs.Seen.{SeenAs}
use Rattle.shfl_world.specs.LawfulLock.{terms_of}
use Rattle.shfl_solo.specs.declared.rule.Whole.{Whole}
use Rattle.shfl_solo.specs.declared.rule.Opening.{Opening}

abbrev pub lock : Rules → List ℕ → List PassState → Lock
lock rules words passes = record { rules = rules; world = record { words = words; passes = passes } }

abbrev pub world : Whole → World
world v = record { words = v.words; passes = v.passes }

abbrev pub whole : World → Whole
whole w = record { words = w.words; passes = w.passes }

-- the rules and the attributes of the opening
abbrev pub opening_terms : Opening → Terms
opening_terms k = terms_of (lock k.rules k.words.value.items k.passes.value.items)

pub record IsWholeLock (k : Opening) (s : State (Unit {0}) Whole) : Type 0 where
  pub view : Whole
  pub one : s.views ≡ view ∷ []
  pub words : s.words ≡ view.words
  -- every seat of the line has its pass
  pub full : length view.passes ≡ count (opening_terms k)
  pub lawful : Lawful (opening_terms k) (world view)

abbrev pub first_view : Opening → Whole
first_view k = record { words = k.words.value.items; passes = k.passes.value.items }

-- the number found is what the lock's own word said, and the lock goes on by the step
pub record Steps (rules : Rules) (p : ℕ) (own : PassState) (choice : Bool) (v : Whole) (n : ℕ) (v' : Whole) : Type 0 where
  pub view : v' ≡ whole (stepped rules (world v) p own choice)
  pub found : n ≡ told (plan rules p own) (look v.words (site (plan rules p own)))

-- what a step of the pass p tells, which stands at `own`
abbrev pub row_of : Rules → ℕ → PassState → Bool → Step (Unit {0}) → Me (Unit {0}) Whole → ℕ → Me (Unit {0}) Whole → Type 0
row_of rules p own choice st m n m' = Steps rules p own choice m.0 n m'.0 × (m'.1 ≡ m.1)

-- what a load tells: the word, and the seat is as before
abbrev pub reads : Step (Unit {0}) → Me (Unit {0}) Whole → ℕ → Me (Unit {0}) Whole → Type 0
reads st m n m' = (n ≡ slice_index m.0.words st.word) × (m' ≡ m)

-- the view has the pass p, which stands at `own`
pub record IsSeen (form : Form) (p : ℕ) (own : PassState) (passes : List PassState) : Type 0 where
  pub seen : PassState
  pub there : get_elem? passes p ≡ some seen
  pub alike : SeenAs form own seen
