-- The parked passes, one pass more at a time.
use Rattle.std.proofs.Common.{◌≡◌, ℕ, zero, suc, ◌+◌, ◌<◌, ◌≤◌, true, false, cond, List, [], ◌∷◌, ◌++◌, Result, IsOk, is_ok, take, length, length-append, add-one, refl, sym, ◌∙◌, arith}
use Rattle.std.specs.Prelude.{slice_index}
use Rattle.std.proofs.lemmas.List.{append-nil, take_more, take_all}
use Rattle.shfl_core.specs.Runner.{is_parked}
use Rattle.shfl_core.specs.Worlds.{World, known}
use Rattle.shfl_sched.specs.ReportParts.{parked_below}
use Rattle.shfl_sched.proofs.Shown.{at_most_one}

pub one_more : (w : World) (n : ℕ) → is_parked (known w.passes n).nap ≡ true → parked_below w (n + 1) ≡ parked_below w n ++ n ∷ []
one_more w n is = rw (add-one, is) refl

-- a pass that isn't parked adds nothing
pub none_more : (w : World) (n : ℕ) → is_parked (known w.passes n).nap ≡ false → parked_below w (n + 1) ≡ parked_below w n
none_more w n is = rw (add-one, is) (append-nil (parked_below w n))

-- the first passes of a list are the parked ones so far, and so are they with one more
pub met_more : (w : World) (n : ℕ) (kept : List ℕ) (met : ℕ) → take met kept ≡ parked_below w n → is_parked (known w.passes n).nap ≡ true
    → met < length kept → slice_index kept met ≡ n → take (met + 1) kept ≡ parked_below w (n + 1)
met_more w n kept met so_far is inside here = take_more kept met 0 inside ∙ ((λ j. so_far j ++ here j ∷ []) ∙ sym (one_more w n is))

pub met_all : (kept : List ℕ) (met : ℕ) → met ≡ length kept → take met kept ≡ kept
met_all kept met e = take_all met kept (omega arith)

pub ruleset met_rules = (met_more, none_more, met_all)

-- no more passes are parked than there are
pub parked_few : (w : World) (n : ℕ) → length (parked_below w n) ≤ n
parked_few w zero = omega arith
parked_few w (suc n) =
    let rest = parked_few w n in
    let more = length-append (parked_below w n) (cond (is_parked (known w.passes n).nap) (n ∷ []) []) in
    let one = at_most_one (is_parked (known w.passes n).nap) n in omega (arith, rest, more, one)

-- what a push within the room leaves
pub pushed_within : {T E : Type 0} (r : Result T E) (now was more : List ℕ) → IsOk r → now ≡ cond (is_ok r) (was ++ more) was → now ≡ was ++ more
pushed_within r now was more ok e = rw ok at e
