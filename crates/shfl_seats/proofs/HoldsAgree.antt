-- The list that a seat keeps goes on to say what the seat holds.
use Rattle.std.proofs.Common.{◌≡◌, ◌≢◌, ℕ, ◌==◌, Bool, true, false, cond, List, [], ◌∷◌, refl, sym, ap, ◌∙◌, arith}
use Rattle.std.specs.Prelude.{Option, Some, None, Result, Ok, Err, IfOk}
use Rattle.std.specs.Result.{is_err}
use Rattle.std.proofs.lemmas.Bool.Decides.{nat_tests}
use Rattle.shfl_line.specs.declared.events.Mode.{Mode}
use Rattle.shfl_core.specs.Plan.{moving}
use Rattle.shfl_laws.specs.Holds.{hold_of}
use Rattle.shfl_arena.specs.Threads.{mode_held, without_lock}
use Rattle.shfl_arena.specs.SeatModels.{SeatModel}
use Rattle.shfl_arena.specs.SeatSteps.{TakesStep, WinsAttempt, LosesAttempt}
use Rattle.shfl_arena.specs.Waits.{Frees}
use Rattle.shfl_arena.proofs.Threads.{mode-none}
use Rattle.shfl_seats.specs.Tickets.{Agree}
use Rattle.shfl_seats.proofs.Holds.{mode-left-out, agree-by}

pub none-agree : (holds : List (ℕ × Mode)) → holds ≡ [] → Agree [] holds
none-agree holds e l = sym (ap (mode_held l) e)

pub same-agree : (kept kept' holds holds' : List (ℕ × Mode)) → kept' ≡ kept → holds' ≡ holds → Agree kept holds → Agree kept' holds'
same-agree kept kept' holds holds' e f was l = ap (mode_held l) e ∙ (was l ∙ sym (ap (mode_held l) f))

pub won-agree : (lock : ℕ) (mode : Mode) (old new : SeatModel (Unit {0})) (kept kept' : List (ℕ × Mode)) → Agree kept old.holds
    → mode_held lock kept' ≡ Some mode → ((k : ℕ) → k ≢ lock → mode_held k kept' ≡ mode_held k kept) → WinsAttempt lock mode old new → Agree kept' new.holds
won-agree lock mode old new kept kept' was here else w =
    let then : new.holds ≡ (lock, mode) ∷ old.holds = ap (λ (m : SeatModel (Unit {0})). m.holds) w.after in
    let same : (lock == lock) ≡ true = grind (arith, nat_tests) in
    agree-by lock (Some mode) kept kept' old.holds new.holds was here else
    (ap (mode_held lock) then ∙ ap (λ b. cond b (Some mode) (mode_held lock old.holds)) same)
    (λ k n. let other : (lock == k) ≡ false = grind (arith, nat_tests) in ap (mode_held k) then ∙ ap (λ b. cond b (Some mode) (mode_held k old.holds)) other)

pub lost-agree : (lock word : ℕ) (mode : Mode) (old new : SeatModel (Unit {0})) (kept kept' : List (ℕ × Mode)) → Agree kept old.holds → kept' ≡ kept
    → LosesAttempt lock mode word old new → Agree kept' new.holds
lost-agree lock word mode old new kept kept' was is l = same-agree kept kept' old.holds new.holds is (ap (λ (m : SeatModel (Unit {0})). m.holds) l.after) was

pub rested-agree : (choice : Bool) (old new : SeatModel (Unit {0})) (kept kept' : List (ℕ × Mode)) (hold : Option Mode) (at : ℕ) → Agree kept old.holds
    → mode_held at kept' ≡ hold → ((k : ℕ) → k ≢ at → mode_held k kept' ≡ mode_held k kept) → at ≡ new.lock → hold ≡ hold_of new.own → moving new.own ≡ false → TakesStep old choice new
    → Agree kept' new.holds
rested-agree choice old new kept kept' hold at was here else place how rests s =
    let lock : at ≡ old.lock = place ∙ ap (λ (m : SeatModel (Unit {0})). m.lock) s.row in
    agree-by old.lock hold kept kept' old.holds new.holds was
    (ap (λ l. mode_held l kept') (sym lock) ∙ here) (λ k n. else k (λ i. n (i ∙ lock)))
    (s.here rests ∙ sym how) (λ k n. s.elsewhere k n)

pub moving-agree : (choice : Bool) (old new : SeatModel (Unit {0})) (kept : List (ℕ × Mode)) → Agree kept old.holds → moving new.own ≡ true → TakesStep old choice new
    → Agree kept new.holds
moving-agree choice old new kept was moves s = same-agree kept kept old.holds new.holds refl (s.waits moves) was

pub freed-agree : (lock : ℕ) (mode : Mode) (old new : SeatModel (Unit {0})) (kept kept' : List (ℕ × Mode)) → Agree kept old.holds → kept' ≡ without_lock lock kept
    → Frees lock mode old new → Agree kept' new.holds
freed-agree lock mode old new kept kept' was is f = agree-by lock None kept kept' old.holds new.holds was
    (ap (mode_held lock) is ∙ mode-none lock kept) (λ k n. ap (mode_held k) is ∙ mode-left-out k lock kept n) f.here f.elsewhere

-- what holds where an answer is no error
pub from-ok : {A E P : Type 0} (r : Result A E) → is_err r ≡ false → IfOk r (λ _. P) → P
from-ok (Ok v) e p = p
from-ok (Err x) e p = absurd (cc)
