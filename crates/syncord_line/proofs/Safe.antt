-- After every event of a schedule the lock is lawful, and so it is safe.
use Rattle.std.proofs.Common.{ℕ, List, [], ◌∷◌, Bool, IsTrue, length, refl, sym, ◌∙◌, true≢false, arith}
use Rattle.std.specs.List.{AllByRecursion}
use Rattle.shfl_line.specs.declared.events.Form.{Form}
use Rattle.shfl_core.specs.Runner.{Lock, moved}
use Rattle.shfl_core.specs.Worlds.{World, Move, opening}
use Rattle.shfl_laws.specs.Moves.{MayMove}
use Rattle.shfl_world.specs.LawfulLock.{IsLawfulLock}
use Rattle.shfl_world.proofs.Facts.{well-formed, plainly, word-for-word}
use Rattle.shfl_world.proofs.Moving.{move-lawful, opened-lawful}
use Rattle.shfl_sched.specs.declared.schedule.Act.{Act}
use Rattle.shfl_sched.specs.declared.schedule.Act.TheVariants.{Write, Read, Free, Step}
use Rattle.shfl_sched.specs.declared.schedule.Event.{Event}
use Rattle.shfl_sched.specs.Schedules.{ScheduleModel, IsWithin, is_act_of, IsEventOf}
use Rattle.shfl_sched.specs.Run.{Setup, rules_of, setup_of, move_of, move_in, after_event, moments}
use Rattle.syncord_line.specs.Safety.{IsSafe, IsAlwaysSafe}

pub lawful-is-safe : (lock : Lock) → IsLawfulLock lock → IsSafe lock.rules.limit lock.world
lawful-is-safe lock ok = record { well_formed = well-formed lock ok; shows = word-for-word lock ok; headline = plainly lock ok }

-- the form of the lock allows the move of an act that may stand in the schedule
allows : (form : Form) (act : Act) (pass : ℕ) (choice : Bool) → IsTrue (is_act_of form act) → MayMove form (move_of act pass choice)
allows form Write pass choice may = λ none. refl
allows form Read pass choice may = λ none. absurd (true≢false (sym may ∙ none))
allows form Free pass choice may = tt
allows form Step pass choice may = tt

safe-from : (t : Setup) (n : ℕ) (w : World) (events : List Event) → IsLawfulLock (record { rules = t.rules; world = w })
    → AllByRecursion (IsEventOf t.rules.form n) events → AllByRecursion (λ m. IsSafe t.rules.limit m.after) (moments t w events)
safe-from t n w [] ok each = tt
safe-from t n w (e ∷ rest) ok each =
    let lock : Lock = record { rules = t.rules; world = w } in
    let m : Move = move_in t w e in
    let next : IsLawfulLock (moved lock m) = (move-lawful lock m ok (allows t.rules.form e.act e.pass _ each.0.act)).lawful in
    (lawful-is-safe (moved lock m) next, safe-from t n (after_event t w e) rest next each.1)

pub always-safe : (s : ScheduleModel) → IsWithin s → IsAlwaysSafe s
always-safe s within = safe-from (setup_of s) (length s.passes) (opening s.passes) s.events
    (opened-lawful (rules_of s) s.passes (record { limit = within.limit; some = within.passes.0; few = let few = within.passes.1 in omega arith }))
    within.events
