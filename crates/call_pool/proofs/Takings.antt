-- A pass after a call that it took and made.
use Rattle.std.proofs.Common.{◌≡◌, ◌≢◌, ℕ, zero, suc, ◌+◌, ◌<◌, ◌≤◌, List, [], ◌∷◌, ◌++◌, map, length, slice_get, Some, sym, refl, ap, ◌∙◌, subst, arith, length-append}
use Rattle.std.specs.List.{All, AllByRecursion}
use Rattle.std.proofs.lemmas.List.{map-append}
use Rattle.std.proofs.lemmas.Option.{get_or_from_slice_get}
use Rattle.std.proofs.lemmas.List.Elements.{recursion_from_All, All-push, All-nil}
use Rattle.hist_log.specs.declared.numbered.NumberedCall.{NumberedCall}
use Rattle.hist_log.specs.Numbers.{numbers, inner}
use Rattle.hist_log.specs.PoolHistories.{AreRising}
use Rattle.shfl_table.specs.declared.kept.Action.{Action}
use Rattle.shfl_table.specs.Histories.{actions_by}
use Rattle.shfl_cell.specs.Cells.{CellPassModel, MakesCall, number}
use Rattle.call_queue.specs.Rule.{whole}
use Rattle.call_pool.specs.Pools.{PoolModel, PoolPassModel, IsPassOf}

-- behind rising numbers below it, a number rises too
pub rising-more : (xs : List ℕ) (x : ℕ) → AreRising xs → AllByRecursion (λ y. y < x) xs → AreRising (xs ++ x ∷ [])
rising-more [] x rising below = (tt, tt)
rising-more (y ∷ ys) x rising below = (above ys x rising.0 below.0, rising-more ys x rising.1 below.1)
  where
    above : (zs : List ℕ) (x : ℕ) → AllByRecursion (λ z. y < z) zs → y < x → AllByRecursion (λ z. y < z) (zs ++ x ∷ [])
    above [] x all h = (h, tt)
    above (z ∷ zs) x all h = (all.0, above zs x all.1 h)

-- rising numbers from `least` on, all below `bound`, are no more than there are between
rising-few : (xs : List ℕ) (least bound : ℕ) → least ≤ bound → AreRising xs → AllByRecursion (λ y. least ≤ y) xs → AllByRecursion (λ y. y < bound) xs → length xs + least ≤ bound
rising-few [] least bound few rising from below = omega arith
rising-few (x ∷ xs) least bound few rising from below =
    let x_from : least ≤ x = from.0 in let x_below : x < bound = below.0 in
    let r : length xs + suc x ≤ bound = rising-few xs (suc x) bound (omega arith) rising.1 (next xs x rising.0) below.1 in omega arith
  where
    next : (zs : List ℕ) (x : ℕ) → AllByRecursion (λ z. x < z) zs → AllByRecursion (λ z. suc x ≤ z) zs
    next [] x all = tt
    next (z ∷ zs) x all = let h : x < z = all.0 in ((let y : suc x ≤ z = omega arith in y), next zs x all.1)

at_least-zero : (xs : List ℕ) → AllByRecursion (λ y. 0 ≤ y) xs
at_least-zero [] = tt
at_least-zero (x ∷ xs) = ((let y : 0 ≤ x = omega arith in y), at_least-zero xs)

module _ {C : Type 0} where
  places-below : (n : ℕ) (cs : List (NumberedCall C)) → AllByRecursion (λ b. b.at < n) cs → AllByRecursion (λ y. y < n) (map (λ c. c.at) cs)
  places-below n [] all = tt
  places-below n (c ∷ cs) all = (all.0, places-below n cs all.1)

  get_within : (xs : List C) (i : ℕ) (x : C) → slice_get xs i ≡ Some x → i < length xs
  get_within [] i x e = absurd (cc)
  get_within (y ∷ ys) zero x e = omega arith
  get_within (y ∷ ys) (suc i) x e = let r = get_within ys i x e in omega arith

  -- what is true of all is true of the one at a place
  pub at_place : (P : C → Type 0) (xs : List C) (i : ℕ) (x : C) → slice_get xs i ≡ Some x → All P xs → P x
  at_place P xs i x at all = subst P (get_or_from_slice_get xs i x x at) (all i x (get_within xs i x at))

  -- a pass that took only calls at earlier places has not yet made all
  pub one_left : (call_numbers : C → List ℕ) (admits : List ℕ → List ℕ → Type 0) (pool : PoolModel C) (p : PoolPassModel C) (c : NumberedCall C) → IsPassOf call_numbers admits pool p
      → slice_get pool.queue.calls c.at ≡ Some c.call → All (λ b. b.at < c.at) p.taker.taken → 0 < p.cell.left
  one_left call_numbers admits pool p c ok listed below =
      let within = get_within pool.queue.calls c.at c.call listed in
      let few = rising-few (map (λ b. b.at) p.taker.taken) 0 c.at (omega arith) ok.rising (at_least-zero (map (λ b. b.at) p.taker.taken))
      (places-below c.at p.taker.taken (recursion_from_All (λ b. b.at < c.at) p.taker.taken below)) in
      let long = long_map p.taker.taken in let left = ok.left in omega arith
    where
      long_map : (cs : List (NumberedCall C)) → length (map (λ b. b.at) cs) ≡ length cs
      long_map [] = refl
      long_map (c ∷ cs) = ap suc (long_map cs)

  -- the pass is still one of the pool
  pub still_own : (call_numbers : C → List ℕ) (admits : List ℕ → List ℕ → Type 0) (reply_at state_after : List ℕ → List ℕ → List ℕ) (pool : PoolModel C) (old new : PoolPassModel C) (c : NumberedCall C) (reply : List ℕ) (place : ℕ)
      → IsPassOf call_numbers admits pool old → new.taker.queue ≡ old.taker.queue → new.taker.calls ≡ old.taker.calls → new.taker.parts ≡ old.taker.parts → new.taker.taken ≡ old.taker.taken ++ c ∷ []
      → slice_get pool.queue.calls c.at ≡ Some c.call → All (λ b. b.at < c.at) old.taker.taken
      → MakesCall reply_at state_after old.cell (record { worker = number old.cell; call = c.at ∷ call_numbers c.call; reply = reply }) place new.cell
      → IsPassOf call_numbers admits pool new
  still_own call_numbers admits reply_at state_after pool old new c reply place ok queue calls parts taken listed below made =
      let m : Action = record { worker = number old.cell; call = c.at ∷ call_numbers c.call; reply = reply } in
      let me = made.stays.1 in
      record {
        queue = queue ∙ ok.queue;
        calls = calls ∙ ok.calls;
        cell = made.stays.0 ∙ ok.cell;
        opening = made.stays.2 ∙ ok.opening;
        admitted = ok.admitted;
        part = subst (λ n. 0 < n) (sym parts) ok.part;
        rest = λ first. subst (λ n. whole < n + pool.queue.takers) (sym parts) (ok.rest (sym me ∙ first));
        left = (let a = ok.left in let b = made.left in let d = ap length taken in let e = length-append old.taker.taken (c ∷ []) in omega arith);
        made = ap (λ w. map (λ a. a.call) (actions_by w new.cell.seen)) me
            ∙ (ap (map (λ a. a.call)) made.own
            ∙ (map-append (λ (a : Action). a.call) (actions_by (number old.cell) old.cell.seen) (m ∷ [])
            ∙ (ap (λ l. l ++ (c.at ∷ call_numbers c.call) ∷ []) ok.made
            ∙ (sym (map-append (numbers call_numbers) old.taker.taken (c ∷ [])) ∙ ap (map (numbers call_numbers)) (sym taken)))));
        listed = subst (All (λ b. slice_get pool.queue.calls b.at ≡ Some b.call)) (sym taken)
            (All-push (λ b. slice_get pool.queue.calls b.at ≡ Some b.call) old.taker.taken c ok.listed listed);
        rising = subst (λ l. AreRising (map (λ b. b.at) l)) (sym taken)
            (subst AreRising (sym (map-append (λ (b : NumberedCall C). b.at) old.taker.taken (c ∷ [])))
            (rising-more (map (λ b. b.at) old.taker.taken) c.at ok.rising (places-below c.at old.taker.taken (recursion_from_All (λ b. b.at < c.at) old.taker.taken below))));
      }

  -- a pass that has taken nothing, and may make every call, is one of the pool
  pub unused_own : (call_numbers : C → List ℕ) (admits : List ℕ → List ℕ → Type 0) (pool : PoolModel C) (p : PoolPassModel C) → p.taker.queue ≡ pool.queue.id → p.taker.calls ≡ pool.queue.calls → p.taker.taken ≡ []
      → 0 < p.taker.parts → (number p.cell ≡ 0 → whole < p.taker.parts + pool.queue.takers)
      → p.cell.cell ≡ pool.cell.id → p.cell.opening ≡ pool.cell.opening → p.cell.seen ≡ [] → p.cell.left ≡ length pool.queue.calls
      → All (λ c. admits pool.cell.opening (call_numbers c)) pool.queue.calls → IsPassOf call_numbers admits pool p
  unused_own call_numbers admits pool p queue calls taken part rest cell opening seen left admitted = record {
    queue = queue;
    calls = calls;
    cell = cell;
    opening = opening;
    admitted = admitted;
    part = part;
    rest = rest;
    left = (let t = ap length taken in omega arith);
    made = ap (λ l. map (λ a. a.call) (actions_by (number p.cell) l)) seen ∙ ap (map (numbers call_numbers)) (sym taken);
    listed = subst (All (λ b. slice_get pool.queue.calls b.at ≡ Some b.call)) (sym taken) (All-nil (λ (b : NumberedCall C). slice_get pool.queue.calls b.at ≡ Some b.call));
    rising = subst (λ l. AreRising (map (λ b. b.at) l)) (sym taken) tt;
  }
