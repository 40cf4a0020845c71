-- One event more of a run: the lock after it, and what its lock still has.
use Rattle.std.proofs.Common.{◌≡◌, ℕ, zero, suc, ◌+◌, ◌<◌, Bool, true, false, cond, List, [], ◌∷◌, ◌++◌, length, get_or, take, length-set, length-append, refl, sym, ap, ◌∙◌, arith}
use Rattle.std.proofs.lemmas.List.{take_more, length-replicate}
use Rattle.shfl_line.specs.Line.{Line, empty}
use Rattle.shfl_core.specs.declared.phase.Rules.{Rules}
use Rattle.shfl_core.specs.Runner.{Lock, moved, opened}
use Rattle.shfl_core.specs.ShownLine.{each_below, shown_line}
use Rattle.shfl_core.specs.Worlds.{World, Move, Acquire, Release, Step, admitted, made, after_move, opening, run}
use Rattle.shfl_core.proofs.Opening.{idle-from-long}
use Rattle.shfl_sched.specs.declared.schedule.Event.{Event}
use Rattle.shfl_sched.specs.Schedules.{ScheduleModel}
use Rattle.shfl_sched.specs.Run.{Setup, setup_of, rules_of, move_in, after_event, moments, moves, lock_after}

made-passes : (t : Rules) (w : World) (m : Move) → length (made t w m).passes ≡ length w.passes
made-passes t w (Acquire p mode) = length-set w.passes p _
made-passes t w (Release p) = length-set w.passes p _
made-passes t w (Step p choice) = length-set w.passes p _

-- a choice between two worlds of as many passes
chosen-passes : (b : Bool) (v w : World) → length v.passes ≡ length w.passes → length (cond b v w).passes ≡ length w.passes
chosen-passes true v w e = e
chosen-passes false v w e = refl

-- a move leaves the lock's passes as many
move-passes : (t : Rules) (w : World) (m : Move) → length (after_move t w m).passes ≡ length w.passes
move-passes t w m = chosen-passes (admitted w m) (made t w m) w (made-passes t w m)

pub moved_passes : (a b : Lock) (m : Move) (n : ℕ) → b ≡ moved a m → length a.world.passes ≡ n → length b.world.passes ≡ n
moved_passes a b m n e long = ap (λ (x : Lock). length x.world.passes) e ∙ move-passes a.rules a.world m ∙ long

-- the world after events, event by event
abbrev after_events : Setup → World → List Event → World
after_events t w [] = w
after_events t w (e ∷ rest) = after_events t (after_event t w e) rest

run-is-events : (t : Setup) (w : World) (n : ℕ) (events : List Event) → run t.rules w (moves (take n (moments t w events))) ≡ after_events t w (take n events)
run-is-events t w zero events = refl
run-is-events t w (suc n) [] = refl
run-is-events t w (suc n) (e ∷ rest) = run-is-events t (after_event t w e) n rest

events-passes : (t : Setup) (w : World) (events : List Event) → length (after_events t w events).passes ≡ length w.passes
events-passes t w [] = refl
events-passes t w (e ∷ rest) = events-passes t (after_event t w e) rest ∙ move-passes t.rules w (move_in t w e)

events-append : (t : Setup) (w : World) (events : List Event) (e : Event) → after_events t w (events ++ e ∷ []) ≡ after_event t (after_events t w events) e
events-append t w [] e = refl
events-append t w (x ∷ rest) e = events-append t (after_event t w x) rest e

module _ (s : ScheduleModel) where
  world-is : (n : ℕ) → (lock_after s n).world ≡ after_events (setup_of s) (opening s.passes) (take n s.events)
  world-is n = run-is-events (setup_of s) (opening s.passes) n s.events

  -- the lock of a run has a pass for each attribute
  lock-passes : (n : ℕ) → length (lock_after s n).world.passes ≡ length s.passes
  lock-passes n = ap (λ (w : World). length w.passes) (world-is n) ∙ events-passes (setup_of s) (opening s.passes) (take n s.events) ∙ idle-from-long 0 s.passes

  -- the world after one event more
  pub world_moves : (i : ℕ) (d : Event) → i < length s.events → (lock_after s (i + 1)).world ≡ after_event (setup_of s) (lock_after s i).world (get_or s.events i d)
  world_moves i d lt = world-is (i + 1) ∙ ap (after_events (setup_of s) (opening s.passes)) (take_more s.events i d lt)
      ∙ events-append (setup_of s) (opening s.passes) (take i s.events) (get_or s.events i d) ∙ ap (λ (w : World). after_event (setup_of s) w (get_or s.events i d)) (sym (world-is i))

  lock-moves : (i : ℕ) (d : Event) → i < length s.events → lock_after s (i + 1) ≡ moved (lock_after s i) (move_in (setup_of s) (lock_after s i).world (get_or s.events i d))
  lock-moves i d lt = ap (λ (w : World). record { rules = rules_of s; world = w }) (world_moves i d lt)

each-below-long : {A : Type 0} (f : ℕ → A) (n : ℕ) → length (each_below f n) ≡ n
each-below-long f zero = refl
each-below-long f (suc n) = let e = each-below-long f n in length-append (each_below f n) (f n ∷ []) ∙ omega arith

-- a lock shows a batch number for each pass
shown-marks : (w : World) → length (shown_line w).mark ≡ length w.passes
shown-marks w = each-below-long _ (length w.passes)

pub marks_of : (a : Line) (w : World) → a ≡ shown_line w → length a.mark ≡ length w.passes
marks_of a w e = ap (λ (x : Line). length x.mark) e ∙ shown-marks w

-- a lock at its opening has a pass for each attribute, and the empty state a batch number for each pass
pub opening_passes : (s : ScheduleModel) (a : Lock) → a ≡ opened (rules_of s) s.passes → length a.world.passes ≡ length s.passes
opening_passes s a e = ap (λ (x : Lock). length x.world.passes) e ∙ idle-from-long 0 s.passes

pub opening_marks : (a : Line) (n : ℕ) → a ≡ empty n → length a.mark ≡ n
opening_marks a n e = ap (λ (x : Line). length x.mark) e ∙ length-replicate n 0

module _ (s : ScheduleModel) (i : ℕ) (a : Lock) (is : a ≡ lock_after s i) where
  pub passes_of : length a.world.passes ≡ length s.passes
  passes_of = ap (λ (x : Lock). length x.world.passes) is ∙ lock-passes s i

  -- what an event's move made of the lock
  pub goes_on : (d : Event) (b : Lock) → i < length s.events → b ≡ moved a (move_in (setup_of s) a.world (get_or s.events i d)) → b ≡ lock_after s (i + 1)
  goes_on d b lt e = e ∙ ap (λ (x : Lock). moved x (move_in (setup_of s) x.world (get_or s.events i d))) is ∙ sym (lock-moves s i d lt)

  -- whether the lock admitted it
  pub answered : (e : Event) (r : Bool) → r ≡ admitted a.world (move_in (setup_of s) a.world e) → r ≡ admitted (lock_after s i).world (move_in (setup_of s) (lock_after s i).world e)
  answered e r was = was ∙ ap (λ (x : Lock). admitted x.world (move_in (setup_of s) x.world e)) is
