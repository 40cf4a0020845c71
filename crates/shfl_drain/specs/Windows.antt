-- Schedules cut into windows, in each of which every pass with a step to make makes one.
use Rattle.std.specs.Prelude.{◌≡◌, ℕ, zero, suc, ◌*◌, ◌<◌, ◌≤◌, List, [], ◌∷◌, length, Bool, true, false, ◌==◌, ◌||◌}
use Rattle.shfl_core.specs.declared.phase.Rules.{Rules}
use Rattle.shfl_core.specs.Plan.{moving, is_resting}
use Rattle.shfl_core.specs.Worlds.{World, known, Move, Acquire, Release, Step, run}
use Rattle.shfl_core.specs.Lawful.{Terms, count, Lawful}
use Rattle.shfl_drain.specs.Drain.{most_left, HasDrained}
use Rattle.shfl_drain.specs.Schedules.{NoNewcomer}

-- these moves have a step of p, and these have its release
abbrev pub has_step : ℕ → List Move → Bool
has_step p [] = false
has_step p (Acquire q mode ∷ rest) = has_step p rest
has_step p (Release q ∷ rest) = has_step p rest
has_step p (Step q choice ∷ rest) = (q == p) || has_step p rest

abbrev pub has_release : ℕ → List Move → Bool
has_release p [] = false
has_release p (Acquire q mode ∷ rest) = has_release p rest
has_release p (Release q ∷ rest) = (q == p) || has_release p rest
has_release p (Step q choice ∷ rest) = has_release p rest

-- p releases in one of the first so many windows
abbrev pub releases_within : ℕ → ℕ → List (List Move) → Bool
releases_within zero p windows = false
releases_within (suc h) p [] = false
releases_within (suc h) p (window ∷ rest) = has_release p window || releases_within h p rest

-- the world after these windows
abbrev pub run_windows : Rules → World → List (List Move) → World
run_windows t w [] = w
run_windows t w (window ∷ rest) = run_windows t (run t w window) rest

-- from w, nobody comes anew in the window, and each pass with a step to make where it begins makes one in it
pub record IsFairWindow (w : World) (window : List Move) : Type 0 where
  pub none : NoNewcomer window
  pub steps : (p : ℕ) → moving (known w.passes p) ≡ true → has_step p window ≡ true

-- each window is fair, and whoever holds where one begins and owes no step frees the lock within h windows, where so many follow
abbrev pub FairWindows : ℕ → Rules → World → List (List Move) → Type 0
FairWindows h t w [] = Unit {0}
FairWindows h t w (window ∷ rest) = IsFairWindow w window
    × ((p : ℕ) → is_resting (known w.passes p) ≡ true → h ≤ length (window ∷ rest) → releases_within h p (window ∷ rest) ≡ true)
    × FairWindows h t (run t w window) rest

-- after so many such windows the lock has drained, whatever the policies answer
abbrev pub DrainsInWindows : Terms → Type 0
DrainsInWindows t = (h : ℕ) (w : World) → Lawful t w → (windows : List (List Move)) → 0 < h → FairWindows h t.rules w windows
    → h * most_left (count t) ≤ length windows → HasDrained t (run_windows t.rules w windows)
