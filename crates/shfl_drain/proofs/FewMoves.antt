-- How many moves of a schedule without newcomers lead on: each lowers the number, and none raises it.
use Rattle.std.proofs.Common.{◌≡◌, ℕ, ◌+◌, ◌<◌, ◌≤◌, List, [], ◌∷◌, Bool, true, false, cond, refl, ap, arith}
use Rattle.shfl_line.specs.declared.events.Form.{Form}
use Rattle.shfl_core.specs.Worlds.{World, Move, Acquire, Release, Step, after_move, run}
use Rattle.shfl_core.specs.Lawful.{Terms, Lawful, Advances}
use Rattle.shfl_laws.specs.Moves.{MayMove, move_event}
use Rattle.shfl_laws.proofs.laws.Laws.{laws}
use Rattle.shfl_laws.proofs.laws.MoveLaws.{move-law}
use Rattle.shfl_drain.specs.Drain.{is_acquire, HasDrained}
use Rattle.shfl_drain.specs.Schedules.{NoNewcomer, leads_on, moves_on, FewMovesOn, DrainsByThem}
use Rattle.shfl_drain.proofs.Number.{number, bounded, drained}
use Rattle.shfl_drain.proofs.NeverStuck.{free-at-rest}
use Rattle.shfl_drain.proofs.DrainNumber.{keeps, goes-lowers, release-leaves}

may : (form : Form) (m : Move) → is_acquire m ≡ false → MayMove form m
may form (Acquire p mode) e = absurd (cc)
may form (Release p) e = tt
may form (Step p c) e = tt

-- the world after a move that is no acquire
pub moved : (t : Terms) (w : World) (ok : Lawful t w) (m : Move) → is_acquire m ≡ false → Advances t w ok (move_event t.rules w m) (after_move t.rules w m)
moved t w ok m e = move-law t (laws t) m w ok (may t.rules.form m e)

-- a move that leads on lowers the number
pub lowers : (t : Terms) (w : World) (ok : Lawful t w) (m : Move) (a : Advances t w ok (move_event t.rules w m) (after_move t.rules w m)) → leads_on w m ≡ true → number t (after_move t.rules w m) a.lawful < number t w ok
lowers t w ok (Acquire p mode) a e = absurd (cc)
lowers t w ok (Release p) a e = release-leaves t w ok p a e
lowers t w ok (Step p c) a e = goes-lowers t w ok p c a e

-- what is left after a schedule, and what led on in it
pub record Counted (t : Terms) (w : World) (ok : Lawful t w) (moves : List Move) : Type 0 where
  pub lawful : Lawful t (run t.rules w moves)
  pub counts : moves_on t.rules w moves + number t (run t.rules w moves) lawful ≤ number t w ok

pub counted : (t : Terms) (moves : List Move) (w : World) (ok : Lawful t w) → NoNewcomer moves → Counted t w ok moves
counted t [] w ok none = record { lawful = ok; counts = omega arith }
counted t (m ∷ rest) w ok none = let a = moved t w ok m none.0 in by (leads_on w m) refl a (counted t rest (after_move t.rules w m) a.lawful none.1)
  where
    by : (b : Bool) → leads_on w m ≡ b → (a : Advances t w ok (move_event t.rules w m) (after_move t.rules w m)) → Counted t (after_move t.rules w m) a.lawful rest → Counted t w ok (m ∷ rest)
    by true e a ih = record { lawful = ih.lawful; counts = (let l = lowers t w ok m a e in let c = ih.counts in let o : ◌≡◌ {A = ℕ} (cond (leads_on w m) 1 0) 1 = ap (λ b. cond b 1 0) e in omega arith) }
    by false e a ih = record { lawful = ih.lawful; counts = (let k = keeps t w ok m a none.0 in let c = ih.counts in let o : ◌≡◌ {A = ℕ} (cond (leads_on w m) 1 0) 0 = ap (λ b. cond b 1 0) e in omega arith) }

pub few-moves-on : (t : Terms) → FewMovesOn t
few-moves-on t w ok moves none = let a = (counted t moves w ok none).counts in let b = bounded t w ok in omega arith

-- where nothing is left
pub has-drained : (t : Terms) (w : World) (ok : Lawful t w) → number t w ok ≡ 0 → HasDrained t w
has-drained t w ok e = let r = drained t w ok e in record { lawful = ok; rest = r; free = free-at-rest t w ok r }

pub drains-by-them : (t : Terms) → DrainsByThem t
drains-by-them t w ok moves none h = let c = counted t moves w ok none in has-drained t (run t.rules w moves) c.lawful (let a = c.counts in let b = bounded t w ok in omega arith)
