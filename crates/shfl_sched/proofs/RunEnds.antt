-- The end of a run: all rows are written, and the totals are those of all moments.
use Rattle.std.proofs.Common.{◌≡◌, ℕ, ◌+◌, ◌≤◌, List, [], ◌++◌, Option, length, drop, arith}
use Rattle.std.proofs.lemmas.List.{drop_all}
use Rattle.shfl_sched.specs.declared.handing.RunError.{RunError}
use Rattle.shfl_sched.specs.Handing.{HandsOn, Stops, StopsAfter}
use Rattle.shfl_sched.specs.Report.{heading_text, rows_from, totals_text, count_admitted, count_refused, line_report}
use Rattle.shfl_sched.specs.Run.{Moment, setup_of, moments, moments_of, lock_after}
use Rattle.shfl_sched.specs.Schedules.{ScheduleModel}
use Rattle.shfl_sched.proofs.Pieces.{Handed, hands_on, writes_last, stops, longer}

-- the moments behind so many events
abbrev pub later_moments : ScheduleModel → ℕ → List Moment
later_moments s i = moments (setup_of s) (lock_after s i).world (drop i s.events)

pub ends_whole : (s : ScheduleModel) (i k yeses noes sent sent' : ℕ) (a b c : Option (List ℕ)) (front text text' : List ℕ) → length s.events ≤ i
    → Handed a b sent front (rows_from s.form k (later_moments s i)) (heading_text s ++ rows_from s.form 1 (moments_of s)) → HandsOn b c sent sent' front text
    → yeses + count_admitted (later_moments s i) ≡ count_admitted (moments_of s) → noes + count_refused (later_moments s i) ≡ count_refused (moments_of s)
    → text' ≡ text ++ totals_text yeses noes → Handed a c sent' text' [] (line_report s)
ends_whole s i k yeses noes sent sent' a b c front text text' all so_far moved admitted refused wrote =
    let none : drop i s.events ≡ [] = drop_all i s.events all in
    let rows = rw none at so_far in
    let y : yeses ≡ count_admitted (moments_of s) = let e = rw none at admitted in omega (arith, e) in
    let n : noes ≡ count_refused (moments_of s) = let e = rw none at refused in omega (arith, e) in
    writes_last a c sent' text text' (totals_text (count_admitted (moments_of s)) (count_refused (moments_of s))) (heading_text s ++ rows_from s.form 1 (moments_of s))
    (rw (y, n) at wrote) (hands_on a b c sent sent' front text [] _ moved rows)

-- the sink failed before all rows were written
pub stops_before : (s : ScheduleModel) (i k sent f g h : ℕ) (a b c : Option (List ℕ)) (text : List ℕ) (e : RunError) → f ≤ g → StopsAfter sent e b c g h text
    → Handed a b sent text (rows_from s.form k (later_moments s i)) (heading_text s ++ rows_from s.form 1 (moments_of s)) → Stops e a c f h (line_report s)
stops_before s i k sent f g h a b c text e later stop so_far =
    let last = totals_text (count_admitted (moments_of s)) (count_refused (moments_of s)) in
    let rows = rows_from s.form k (later_moments s i) in
    let whole = heading_text s ++ rows_from s.form 1 (moments_of s) in
    stops a b c f g h sent text (rows ++ last) (whole ++ last) e later stop (longer a b sent text rows whole last so_far)
