-- Over windows in which every pass with a step makes one, less is left after each so many, until all are idle.
use Rattle.std.proofs.Common.{◌≡◌, ℕ, zero, suc, ◌+◌, ◌*◌, ◌<◌, ◌≤◌, List, [], ◌∷◌, length, Bool, true, false, refl, sym, subst, ⊎_elim, arith}
use Rattle.std.specs.Prelude.{◌||◌, not}
use Rattle.shfl_core.specs.Plan.{moving, is_resting}
use Rattle.shfl_core.specs.Worlds.{World, known, Move, run}
use Rattle.shfl_core.specs.Lawful.{Terms, count, Lawful}
use Rattle.shfl_drain.specs.GoingOn.{waits, goes_on}
use Rattle.shfl_drain.specs.Progress.{SomebodyActs, GoesOn, MayFree}
use Rattle.shfl_drain.specs.Drain.{most_left, HasDrained}
use Rattle.shfl_drain.specs.Windows.{has_release, releases_within, run_windows, FairWindows, DrainsInWindows}
use Rattle.shfl_drain.proofs.Bools.{both}
use Rattle.shfl_drain.proofs.NeverStuck.{never-stuck}
use Rattle.shfl_drain.proofs.Number.{number, bounded, at-rest-none}
use Rattle.shfl_drain.proofs.FewMoves.{counted, has-drained}
use Rattle.shfl_drain.proofs.FairRuns.{falls-in, rests-in}

-- after j windows: the world, no more left in it, and the windows that follow
record Behind (t : Terms) (h : ℕ) (w : World) (ok : Lawful t w) (windows : List (List Move)) (j : ℕ) : Type 0 where
  world : World
  lawful : Lawful t world
  rest : List (List Move)
  fair : FairWindows h t.rules world rest
  long : length windows ≤ j + length rest
  ends : run_windows t.rules w windows ≡ run_windows t.rules world rest
  keeps : number t world lawful ≤ number t w ok

-- and less left
record Dropped (t : Terms) (h : ℕ) (w : World) (ok : Lawful t w) (windows : List (List Move)) (j : ℕ) : Type 0 where
  behind : Behind t h w ok windows j
  falls : number t behind.world behind.lawful < number t w ok

module _ (t : Terms) (h : ℕ) where
  split : (j : ℕ) (windows : List (List Move)) (w : World) (ok : Lawful t w) → FairWindows h t.rules w windows → Behind t h w ok windows j
  split zero windows w ok f = record { world = w; lawful = ok; rest = windows; fair = f; long = omega arith; ends = refl; keeps = omega arith }
  split (suc j) [] w ok f = record { world = w; lawful = ok; rest = []; fair = tt; long = omega arith; ends = refl; keeps = omega arith }
  split (suc j) (m ∷ ms) w ok f = let c = counted t m w ok f.0.none in let s = split j ms (run t.rules w m) c.lawful f.2 in
      record { world = s.world; lawful = s.lawful; rest = s.rest; fair = s.fair; long = (let l = s.long in omega arith); ends = s.ends; keeps = (let x = s.keeps in let y = c.counts in omega arith) }

  -- where some pass goes on, less is left after one window
  goes-drop : (j : ℕ) (windows : List (List Move)) (w : World) (ok : Lawful t w) → FairWindows h t.rules w windows → (p : ℕ) → goes_on w p ≡ true → 0 < length windows → Dropped t h w ok windows (suc j)
  goes-drop j [] w ok f p g l = absurd (omega arith)
  goes-drop j (m ∷ ms) w ok f p g l = let d = falls-in t p m w ok f.0.none g (f.0.steps p (both (moving (known w.passes p)) (not (waits w p)) g).0) in let s = split j ms (run t.rules w m) d.lawful f.2 in record {
    behind = record { world = s.world; lawful = s.lawful; rest = s.rest; fair = s.fair; long = (let l = s.long in omega arith); ends = s.ends; keeps = (let x = s.keeps in let y = d.falls in omega arith) };
    falls = (let x = s.keeps in let y = d.falls in omega arith);
  }

  or-rest : (a b : Bool) → a ≡ false → (a || b) ≡ true → b ≡ true
  or-rest true b e f = absurd (cc)
  or-rest false b e f = f

  -- where some holder may free the lock, less is left after the windows within which it does
  rests-drop : (j : ℕ) (windows : List (List Move)) (w : World) (ok : Lawful t w) → FairWindows h t.rules w windows → (p : ℕ) → is_resting (known w.passes p) ≡ true → releases_within j p windows ≡ true → Dropped t h w ok windows j
  rests-drop zero windows w ok f p g r = absurd (cc)
  rests-drop (suc j) [] w ok f p g r = absurd (cc)
  rests-drop (suc j) (m ∷ ms) w ok f p g r = ⊎_elim
      (λ d. (let s = split j ms (run t.rules w m) d.lawful f.2 in record {
        behind = record { world = s.world; lawful = s.lawful; rest = s.rest; fair = s.fair; long = (let l = s.long in omega arith); ends = s.ends; keeps = (let x = s.keeps in let y = d.falls in omega arith) };
        falls = (let x = s.keeps in let y = d.falls in omega arith);
      }))
      (λ d. (let s = rests-drop j ms (run t.rules w m) d.1.lawful f.2 p d.1.same (or-rest (has_release p m) (releases_within j p ms) d.0 r) in record {
        behind = record { world = s.behind.world; lawful = s.behind.lawful; rest = s.behind.rest; fair = s.behind.fair; long = (let l = s.behind.long in omega arith); ends = s.behind.ends; keeps = (let x = s.behind.keeps in let y = d.1.keeps in omega arith) };
        falls = (let x = s.falls in let y = d.1.keeps in omega arith);
      }))
      (rests-in t p m w ok f.0.none g)

  -- where nothing is left, nothing is left in the end
  none-left : (windows : List (List Move)) (w : World) (ok : Lawful t w) → FairWindows h t.rules w windows → number t w ok ≤ 0 → HasDrained t (run_windows t.rules w windows)
  none-left [] w ok f z = has-drained t w ok (omega arith)
  none-left (m ∷ ms) w ok f z = let c = counted t m w ok f.0.none in none-left ms (run t.rules w m) c.lawful f.2 (let x = c.counts in omega arith)

  -- somebody acts: less is left after h windows
  acts-drop : (windows : List (List Move)) (w : World) (ok : Lawful t w) → 0 < h → FairWindows h t.rules w windows → h ≤ length windows → SomebodyActs w → Dropped t h w ok windows h
  acts-drop windows w ok pos f l (GoesOn p b g) = by h refl
    where
      by : (n : ℕ) → h ≡ n → Dropped t h w ok windows h
      by zero e = absurd (omega arith)
      by (suc j) e = subst (λ k. Dropped t h w ok windows k) (sym e) (goes-drop j windows w ok f p g (omega arith))
  acts-drop [] w ok pos f l (MayFree p b g) = absurd (omega arith)
  acts-drop (m ∷ ms) w ok pos f l (MayFree p b g) = rests-drop h (m ∷ ms) w ok f p g (f.1 p g l)

  drains : (k : ℕ) (windows : List (List Move)) (w : World) (ok : Lawful t w) → 0 < h → FairWindows h t.rules w windows → number t w ok ≤ k → h * k ≤ length windows → HasDrained t (run_windows t.rules w windows)
  drains zero windows w ok pos f n l = none-left windows w ok f n
  drains (suc k) windows w ok pos f n l = ⊎_elim
      (λ r. none-left windows w ok f (let z = at-rest-none t w ok r in omega arith))
      (λ a. (let e : h * suc k ≡ h * k + h = grind arith in let d = acts-drop windows w ok pos f (omega arith) a in
      subst (λ (z : World). HasDrained t z) (sym d.behind.ends) (drains k d.behind.rest d.behind.world d.behind.lawful pos d.behind.fair (let x = d.falls in omega arith) (let x = d.behind.long in omega arith))))
      (never-stuck t w ok)

pub drains-in-windows : (t : Terms) → DrainsInWindows t
drains-in-windows t h w ok windows pos f l = drains t h (most_left (count t)) windows w ok pos f (bounded t w ok) l
