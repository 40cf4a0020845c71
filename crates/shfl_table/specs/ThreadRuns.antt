-- What threads did on a board since its opening: a list of changes that makes its words and its passes, and in that list what
-- each pass did, and what its holds have made.
use Rattle.std.specs.Prelude.{◌≡◌, ◌≢◌, ℕ, ◌+◌, ◌≤◌, ◌==◌, ◌&&◌, true, cond, List, [], ◌∷◌, ◌++◌, map, length}
use mathlib.Core.Option.{some}
use lib.ListN.{get_elem?}
use Rattle.shfl_line.specs.declared.words.Attr.{Attr}
use Rattle.shfl_line.specs.Words.{attr_word}
use Rattle.shfl_core.specs.declared.phase.Rules.{Rules}
use Rattle.shfl_core.specs.declared.words.Access.{Access}
use Rattle.shfl_core.specs.Words.{look, site, told}
use Rattle.shfl_core.specs.Plan.{moving, plan, attempt_plan}
use Rattle.shfl_core.specs.Worlds.{World, known, Acquire, Release, Step}
use Rattle.shfl_core.specs.Lawful.{Terms}
use Rattle.shfl_laws.specs.Changes.{Change, Moves, Tries, Disables, Fills, Replaces, is_idle_there, after_change}
use Rattle.shfl_laws.specs.Moves.{first_seated}
use Rattle.shfl_laws.specs.Stealing.{disable_plan}
use Rattle.shfl_table.specs.declared.kept.Action.{Action}
use Rattle.shfl_table.specs.declared.view.Decision.{Decision}
use Rattle.shfl_table.specs.declared.view.Part.{Part}
use Rattle.shfl_table.specs.declared.view.View.{View}
use Rattle.shfl_table.specs.MadeInHolds.{RunEvent, changes_of, RunMakes, RanAs}
use Rattle.shfl_table.specs.Places.{Every}
use Rattle.shfl_table.specs.Views.{Deeds, step_deeds, attempt_deeds, no_deeds, part_of, passes_from, IsSpent}

-- what the operation finds in this world, or, of a store, what it stores
abbrev pub found_there : World → Access → ℕ
found_there w a = told a (look w.words (site a))

-- the operation of the pass k that this change is, with what it finds there, or none: a change counts only where it is admitted
abbrev pub own_deeds : Rules → World → ℕ → Change → List Deeds
own_deeds t w k (Moves (Acquire p mode)) = []
own_deeds t w k (Moves (Release p)) = []
own_deeds t w k (Moves (Step p choice)) = cond (p == k && moving (known w.passes p)) (step_deeds t (known w.passes p) choice (found_there w (plan t p (known w.passes p))) ∷ []) []
own_deeds t w k (Tries p mode) = cond (p == k && is_idle_there w p) (attempt_deeds (found_there w (attempt_plan mode)) ∷ []) []
own_deeds t w k (Disables p) = cond (p == k) (no_deeds (found_there w disable_plan) ∷ []) []
own_deeds t w k Fills = []
own_deeds t w k (Replaces p r) = []

-- the operations of the pass k among these changes, from this world on, in their order
abbrev pub did_in : Rules → World → ℕ → List Change → List Deeds
did_in t w k [] = []
did_in t w k (c ∷ rest) = own_deeds t w k c ++ did_in t (after_change t w c) k rest

-- how many of them are attempts
abbrev pub attempts_in : List Deeds → ℕ
attempts_in [] = 0
attempts_in (d ∷ rest) = cond d.attempts 1 0 + attempts_in rest

-- the words that they found, in their order
abbrev pub found_in : List Deeds → List ℕ
found_in [] = []
found_in (d ∷ rest) = d.found ∷ found_in rest

-- what they asked the policy, with the choices
abbrev pub decisions_in : List Deeds → List Decision
decisions_in [] = []
decisions_in (d ∷ rest) = d.decisions ++ decisions_in rest

-- the part of the pass k, which made these operations
abbrev pub part_in : ℕ → List Deeds → Part
part_in k ds = record { number = k; steps_taken = length ds; found = found_in ds; attempts = attempts_in ds; decisions = decisions_in ds }

-- the part tells what its pass did
abbrev pub IsTold : (ℕ → List Deeds) → Part → Type 0
IsTold did x = x ≡ part_in x.number (did x.number)

-- these are the parts of different passes
abbrev pub AreApart : List Part → Type 0
AreApart [] = Unit {0}
AreApart (x ∷ xs) = Every (λ (y : Part). y.number ≢ x.number) xs × AreApart xs

-- what the seats know of what the passes did is what these did
pub record TellsParts (did : ℕ → List Deeds) (views : List View) : Type 0 where
  -- a seat knows the part of its own pass
  pub own : (seat : ℕ) (v : View) → get_elem? views seat ≡ some v → v.live ≡ true → part_of v ≡ part_in seat (did seat)
  -- and that of each pass that it took back, which is spent
  pub back : (seat : ℕ) (v : View) → get_elem? views seat ≡ some v → Every (λ (x : Part). IsSpent views x.number × IsTold did x) v.parts
  -- of which it has one part each
  pub apart : (seat : ℕ) (v : View) → get_elem? views seat ≡ some v → AreApart v.parts
  -- a pass that isn't yet there did nothing
  pub unborn : (k : ℕ) → length views ≤ k → did k ≡ []

-- the words and the passes, as they are seen, are what a list of changes makes of the opening, and in it each pass made just the
-- operations that its seat knows, each with the word that the run has there; the whole history is what the holds in that list have made, in the order in which they ended
pub record HasRun (t : Terms) (words : List ℕ) (views : List View) (total : List Action) : Type 0 where
  -- the attributes of the opening
  pub attrs : List Attr
  pub opened : t.attrs ≡ map attr_word attrs
  pub events : List RunEvent
  pub makes : RunMakes t.rules attrs events (record { words = words; passes = passes_from 0 views }) total
  pub parts : TellsParts (λ k. did_in t.rules (first_seated attrs) k (changes_of events)) views

-- the lock that opened with these attribute words came to rest by one run, and its holds have made the history; in that run each
-- pass did what it told as it was given back, and each operation found the word that the run has there; once each, and nobody
-- else did anything
pub record RanUntilClosed (rules : Rules) (attr_words : List ℕ) (count : ℕ) (parts : List Part) (history : List Action) : Type 0 where
  pub attrs : List Attr
  pub opened : attr_words ≡ map attr_word attrs
  pub ran : RanAs rules attrs history
  pub told : Every (IsTold (λ k. did_in rules (first_seated attrs) k (changes_of ran.events))) parts
  pub apart : AreApart parts
  pub nobody_else : (p : ℕ) → count ≤ p → did_in rules (first_seated attrs) p (changes_of ran.events) ≡ []
