-- How many hold and wait in what a lock shows: at most as many as it has passes.
use Rattle.std.proofs.Common.{◌≡◌, ℕ, zero, suc, ◌≤◌, Bool, true, false, cond, List, [], ◌∷◌, length, length-append, ap, arith}
use Rattle.shfl_line.specs.declared.events.Mode.{Mode}
use Rattle.shfl_line.specs.Line.{Line}
use Rattle.shfl_core.specs.declared.phase.PassState.{PassState}
use Rattle.shfl_core.specs.Phases.{is_holding}
use Rattle.shfl_core.specs.ShownLine.{holders, successor_of, walk, head_of, shown_line}
use Rattle.shfl_core.specs.Worlds.{World, known}

pub at_most_one : {A : Type 0} (b : Bool) (x : A) → length (cond b (x ∷ []) []) ≤ 1
at_most_one true x = omega arith
at_most_one false x = omega arith

holders-few : (pass : ℕ → PassState) (n : ℕ) → length (holders pass n) ≤ n
holders-few pass zero = omega arith
holders-few pass (suc n) =
    let rest = holders-few pass n in
    let one : List (ℕ × Mode) = cond (is_holding (pass n).phase) ((n, (pass n).reg.mode) ∷ []) [] in
    let more = length-append (holders pass n) one in
    let most = at_most_one {A = ℕ × Mode} (is_holding (pass n).phase) (n, (pass n).reg.mode) in omega (arith, rest, more, most)

walk-few : (w : World) (n link : ℕ) → length (walk w n link) ≤ n
walk-few w zero link = omega arith
walk-few w (suc n) zero = omega arith
walk-few w (suc n) (suc a) = let rest = walk-few w n (successor_of w a) in omega (arith, rest)

pub holders_few : (s : Line) (w : World) (n : ℕ) → s ≡ shown_line w → length w.passes ≤ n → length s.hold ≤ n
holders_few s w n is few =
    let same = ap (λ (x : Line). length x.hold) is in
    let most = holders-few (known w.passes) (length w.passes) in omega (arith, same, most, few)

pub waiters_few : (s : Line) (w : World) (n : ℕ) → s ≡ shown_line w → length w.passes ≤ n → length s.line ≤ n
waiters_few s w n is few =
    let same = ap (λ (x : Line). length x.line) is in
    let most = walk-few w (length w.passes) (head_of w) in omega (arith, same, most, few)
