-- The threads of seats, where one seat changes or one more comes.
use Rattle.std.proofs.Common.{◌≡◌, ℕ, zero, suc, ◌+◌, List, [], ◌∷◌, ◌++◌, length, set, refl, sym, ap, ◌∙◌}
use Rattle.std.proofs.lemmas.List.{map-set, length-map}
use Rattle.std.proofs.lemmas.List.Sums.{sum_by-set, sum_by_push}
use mathlib.Core.Option.{some, some-injective, some-ne-none}
use lib.ListN.{get_elem?}
use Rattle.shfl_core.proofs.Lists.{seen-at}
use Rattle.shfl_arena.specs.declared.view.SeatView.{SeatView}
use Rattle.shfl_arena.specs.SeatViews.{seats_of, threads_of}

pub threads-set : (vs : List SeatView) (i : ℕ) (w : SeatView) → threads_of (set vs i w) ≡ set (threads_of vs) i w.thread
threads-set vs i w = map-set (λ (v : SeatView). v.thread) vs i w

pub threads-at : (vs : List SeatView) (i : ℕ) (v : SeatView) → get_elem? vs i ≡ some v → get_elem? (threads_of vs) i ≡ some v.thread
threads-at [] i v e = absurd (some-ne-none v (sym e))
threads-at (x ∷ xs) zero v e = ap (λ (u : SeatView). some u.thread) (some-injective x v e)
threads-at (x ∷ xs) (suc i) v e = threads-at xs i v e

pub threads-long : (vs : List SeatView) → length (threads_of vs) ≡ length vs
threads-long vs = length-map vs (λ v. v.thread)

pub threads-more : (vs : List SeatView) (w : SeatView) → threads_of (vs ++ w ∷ []) ≡ threads_of vs ++ w.thread ∷ []
threads-more [] w = refl
threads-more (x ∷ xs) w = ap (λ z. x.thread ∷ z) (threads-more xs w)

-- and how many seats they stand for
pub seats-set : (vs : List SeatView) (i : ℕ) (v w : SeatView) → get_elem? vs i ≡ some v → seats_of (set vs i w) + v.seats ≡ seats_of vs + w.seats
seats-set vs i v w at = let t = seen-at vs i v v at in ap (λ (u : SeatView). seats_of (set vs i w) + u.seats) (sym t.0) ∙ sum_by-set (λ (u : SeatView). u.seats) vs i w v t.1

pub seats-more : (vs : List SeatView) (w : SeatView) → seats_of (vs ++ w ∷ []) ≡ seats_of vs + w.seats
seats-more vs w = sum_by_push (λ (u : SeatView). u.seats) vs w
