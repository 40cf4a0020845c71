-- The whole history has of each pass just the calls that it took.
use Rattle.std.proofs.Common.{◌≡◌, ◌≢◌, ◌⊎◌, ℕ, zero, suc, ◌+◌, ◌<◌, ◌≤◌, ◌==◌, cond, Bool, true, false, List, [], ◌∷◌, ◌++◌, map, length, Contains, slice_get, Some, sym, refl, ap, ◌∙◌, subst, inl, inr, ⊎_elim, arith, eq-eqb, ne_eqb, filter}
use Rattle.std.specs.List.{count_by, flat_map, All, AllByRecursion}
use Rattle.std.proofs.lemmas.List.Elements.{recursion_from_All, All-from_recursion, All-contains}
use Rattle.std.proofs.lemmas.List.Sums.{sum_by-cons}
use native.Mathlib.Decide.{ℕ_discrete, dec_lt}
use mathlib.Core.Logic.{dite}
use Rattle.hist_log.specs.declared.entry.Entry.{Entry}
use Rattle.hist_log.specs.History.{operations, IsLegal}
use Rattle.hist_log.specs.declared.numbered.NumberedCall.{NumberedCall}
use Rattle.hist_log.specs.Numbers.{numbers, inner, numbers_differ}
use Rattle.hist_log.specs.PoolHistories.{AreRising, place_of, places_of, IsPoolHistory}
use Rattle.call_queue.specs.Queues.{IsEachTaken}
use Rattle.shfl_table.specs.declared.kept.Action.{Action}
use Rattle.shfl_table.specs.Histories.{actions_by, HasSeen}
use Rattle.shfl_table.specs.Books.{actions, action}
use Rattle.shfl_cell.specs.Cells.{CellPassModel, number, AreAll}
use Rattle.call_pool.specs.Pools.{PoolModel, PoolPassModel, IsPassOf, calls_by}
use Rattle.call_pool.proofs.Members.{same_images, one_of}
use Rattle.call_pool.proofs.AllPasses.{pass_with}

module _ {O C R : Type 0} (call_numbers : C → List ℕ) (differ : (a b : C) → call_numbers a ≡ call_numbers b → a ≡ b) (reply_numbers : R → List ℕ) where
  abbrev acts : List (Entry O (NumberedCall C) R) → List Action
  acts entries = actions (numbers call_numbers) reply_numbers entries

  either_act : (b : Bool) (e : Entry O (NumberedCall C) R) (done : List Action) (es : List (Entry O (NumberedCall C) R))
      → map (λ a. a.call) done ≡ map (numbers call_numbers) (map (λ e. e.call) es)
      → map (λ a. a.call) (cond b (action (numbers call_numbers) reply_numbers e ∷ done) done) ≡ map (numbers call_numbers) (map (λ e. e.call) (cond b (e ∷ es) es))
  either_act true e done es h = ap (λ l. numbers call_numbers e.call ∷ l) h
  either_act false e done es h = h

  -- the calls of a worker's actions are the numbers of its entries' calls
  calls_of-actions : (worker : ℕ) (entries : List (Entry O (NumberedCall C) R)) → map (λ a. a.call) (actions_by worker (acts entries)) ≡ map (numbers call_numbers) (calls_by worker entries)
  calls_of-actions worker [] = refl
  calls_of-actions worker (e ∷ es) = either_act (e.worker == worker) e (actions_by worker (acts es)) (filter (λ e. e.worker == worker) es) (calls_of-actions worker es)

  -- the calls of a pass's worker are those that it took
  pub calls_of-pass : (entries : List (Entry O (NumberedCall C) R)) (p : PoolPassModel C) → map (λ a. a.call) (actions_by (number p.cell) p.cell.seen) ≡ map (numbers call_numbers) p.taker.taken
      → HasSeen (acts entries) (number p.cell) p.cell.seen → calls_by (number p.cell) entries ≡ p.taker.taken
  calls_of-pass entries p made seen = same_images (numbers call_numbers) (numbers_differ call_numbers differ) (calls_by (number p.cell) entries) p.taker.taken
      (sym (calls_of-actions (number p.cell) entries) ∙ (ap (map (λ a. a.call)) seen.1 ∙ made))

  nobody_calls : (worker : ℕ) (entries : List (Entry O (NumberedCall C) R)) → actions_by worker (acts entries) ≡ [] → calls_by worker entries ≡ []
  nobody_calls worker entries none = same_images (numbers call_numbers) (numbers_differ call_numbers differ) (calls_by worker entries) []
      (sym (calls_of-actions worker entries) ∙ ap (map (λ a. a.call)) none)

  module _ (admits : List ℕ → List ℕ → Type 0) (entries : List (Entry O (NumberedCall C) R)) (pool : PoolModel C) (count : ℕ) (passes : List (PoolPassModel C))
      (own : All (IsPassOf call_numbers admits pool) passes)
      (all : AreAll count (map (λ p. p.cell) passes))
      (seen : All (λ p. HasSeen (acts entries) (number p.cell) p.cell.seen) passes)
      (nobody : (k : ℕ) → count ≤ k → actions_by k (acts entries) ≡ []) where
    pub each_pass : (p : PoolPassModel C) → Contains passes p → calls_by (number p.cell) entries ≡ p.taker.taken
    each_pass p h = calls_of-pass entries p (All-contains (IsPassOf call_numbers admits pool) passes p own h).made
        (All-contains (λ q. HasSeen (acts entries) (number q.cell) q.cell.seen) passes p seen h)

    -- each worker has no call in the history, or is a pass, which took just its calls
    pub each_worker : (worker : ℕ) → (calls_by worker entries ≡ []) ⊎ ((p : PoolPassModel C) × Contains passes p × (number p.cell ≡ worker) × (calls_by worker entries ≡ p.taker.taken))
    each_worker worker = elim (dec_lt worker count) as (λ _. (calls_by worker entries ≡ []) ⊎ ((p : PoolPassModel C) × Contains passes p × (number p.cell ≡ worker) × (calls_by worker entries ≡ p.taker.taken))) [
      | yes lt ↦ let m = pass_with count passes all worker lt in
          inr (m.0, m.1, m.2, ap (λ w. calls_by w entries) (sym m.2) ∙ each_pass m.0 m.1)
      | no ge ↦ inl (nobody_calls worker entries (nobody worker (omega arith)))
    ]

  -- ---- each entry, by its worker

  module _ (P : NumberedCall C → Type 0) where
    first_here : (b : Bool) (e : Entry O (NumberedCall C) R) (es : List (Entry O (NumberedCall C) R)) → b ≡ true → AllByRecursion P (map (λ e. e.call) (cond b (e ∷ es) es)) → P e.call
    first_here true e es is h = h.0
    first_here false e es is h = absurd (cc)

    others_here : (b : Bool) (e : Entry O (NumberedCall C) R) (es : List (Entry O (NumberedCall C) R)) → AllByRecursion P (map (λ e. e.call) (cond b (e ∷ es) es)) → AllByRecursion P (map (λ e. e.call) es)
    others_here true e es h = h.1
    others_here false e es h = h

    pub of_each_worker : (entries : List (Entry O (NumberedCall C) R)) → ((worker : ℕ) → AllByRecursion P (calls_by worker entries)) → AllByRecursion (λ e. P e.call) entries
    of_each_worker [] each = tt
    of_each_worker (e ∷ es) each = (
      first_here (e.worker == e.worker) e (filter (λ x. x.worker == e.worker) es) (eq-eqb e.worker e.worker refl) (each e.worker),
      of_each_worker es (λ worker. others_here (e.worker == worker) e (filter (λ x. x.worker == worker) es) (each worker)),
    )

  pub places-calls : (es : List (Entry O (NumberedCall C) R)) → map place_of es ≡ map (λ c. c.at) (map (λ e. e.call) es)
  places-calls [] = refl
  places-calls (e ∷ es) = ap (λ l. e.call.at ∷ l) (places-calls es)

  module _ (k : ℕ) where
    -- how often a worker has the place
    abbrev times_by : ℕ → List (Entry O (NumberedCall C) R) → ℕ
    times_by worker entries = count_by (λ c. c.at == k) (calls_by worker entries)

    abbrev here : Entry O (NumberedCall C) R → ℕ
    here e = cond (e.call.at == k) 1 0

    counted : (b : Bool) (e : Entry O (NumberedCall C) R) (es : List (Entry O (NumberedCall C) R))
        → count_by (λ c. c.at == k) (map (λ e. e.call) (cond b (e ∷ es) es)) ≡ cond b (here e) 0 + count_by (λ c. c.at == k) (map (λ e. e.call) es)
    counted true e es = sum_by-cons (λ c. cond (c.at == k) 1 0) e.call (map (λ e. e.call) es)
    counted false e es = omega arith

    -- where one worker alone has the place, it stands in the history as often as with that worker
    only_one : (worker : ℕ) (entries : List (Entry O (NumberedCall C) R)) → ((other : ℕ) → other ≢ worker → times_by other entries ≡ 0) → count_by (λ e. place_of e == k) entries ≡ times_by worker entries
    only_one worker [] others = refl
    only_one worker (e ∷ es) others =
        let step : (w : ℕ) → times_by w (e ∷ es) ≡ cond (e.worker == w) (here e) 0 + times_by w es = λ w. counted (e.worker == w) e (filter (λ x. x.worker == w) es) in
        let rest = only_one worker es (λ other ne. let a = others other ne in let b = step other in omega arith) in
        let front : count_by (λ e. place_of e == k) (e ∷ es) ≡ here e + count_by (λ e. place_of e == k) es = sum_by-cons (λ e. cond (place_of e == k) 1 0) e es in
        let mine = step worker in
        dite (ℕ_discrete e.worker worker)
        (λ same. let c : cond (e.worker == worker) (here e) 0 ≡ here e = ap (λ b. cond b (here e) 0) (eq-eqb e.worker worker same) in omega arith)
        (λ ne. let apart : e.worker ≢ worker = ne in
        let c : cond (e.worker == worker) (here e) 0 ≡ 0 = ap (λ b. cond b (here e) 0) (ne_eqb e.worker worker ne) in
        let own : cond (e.worker == e.worker) (here e) 0 ≡ here e = ap (λ b. cond b (here e) 0) (eq-eqb e.worker e.worker refl) in
        let none = others e.worker ne in let at = step e.worker in omega arith)

  -- ---- the whole

  module _ (admits : List ℕ → List ℕ → Type 0) (entries : List (Entry O (NumberedCall C) R)) (pool : PoolModel C) (count : ℕ) (passes : List (PoolPassModel C))
      (own : All (IsPassOf call_numbers admits pool) passes)
      (mine : (p : PoolPassModel C) → Contains passes p → calls_by (number p.cell) entries ≡ p.taker.taken)
      (each : (worker : ℕ) → (calls_by worker entries ≡ []) ⊎ ((p : PoolPassModel C) × Contains passes p × (number p.cell ≡ worker) × (calls_by worker entries ≡ p.taker.taken))) where
    pass_of : (p : PoolPassModel C) → Contains passes p → IsPassOf call_numbers admits pool p
    pass_of p h = All-contains (IsPassOf call_numbers admits pool) passes p own h

    as_listed : All (λ e. slice_get pool.queue.calls e.call.at ≡ Some e.call.call) entries
    as_listed = All-from_recursion (λ e. slice_get pool.queue.calls e.call.at ≡ Some e.call.call) entries
        (of_each_worker (λ c. slice_get pool.queue.calls c.at ≡ Some c.call) entries
        (λ worker. ⊎_elim
        (λ none. subst (AllByRecursion (λ c. slice_get pool.queue.calls c.at ≡ Some c.call)) (sym none) tt)
        (λ m. subst (AllByRecursion (λ c. slice_get pool.queue.calls c.at ≡ Some c.call)) (sym m.3) (recursion_from_All (λ c. slice_get pool.queue.calls c.at ≡ Some c.call) m.0.taker.taken (pass_of m.0 m.1).listed))
        (each worker)))

    rising : (worker : ℕ) → AreRising (places_of worker entries)
    rising worker = subst AreRising (sym (places-calls (filter (λ e. e.worker == worker) entries)))
        (⊎_elim
        (λ none. subst (λ l. AreRising (map (λ c. c.at) l)) (sym none) tt)
        (λ m. subst (λ l. AreRising (map (λ c. c.at) l)) (sym m.3) (pass_of m.0 m.1).rising)
        (each worker))

    each_once : IsEachTaken pool.queue.calls (flat_map (λ p. p.taker.taken) passes) → (place : ℕ) → place < length pool.queue.calls → count_by (λ e. place_of e == place) entries ≡ 1
    each_once taken place below =
        let one = one_of (λ c. c.at == place) (λ (p : PoolPassModel C). p.taker.taken) (λ p. number p.cell) passes (taken place below) in
        let worker = number one.0.cell in
        let times : ℕ → ℕ = λ w. times_by place w entries in
        let others : (w : ℕ) → w ≢ worker → times w ≡ 0 = λ w ne. ⊎_elim
        (λ none. ap (count_by (λ c. c.at == place)) none)
        (λ m. ap (count_by (λ c. c.at == place)) m.3 ∙ one.3 m.0 m.1 (λ e. ne (sym m.2 ∙ e)))
        (each w) in
        only_one place worker entries others ∙ (ap (count_by (λ c. c.at == place)) (mine one.0 one.1) ∙ one.2)

    pub pool_history : (reply_at state_after : List ℕ → List ℕ → List ℕ) (opening : List ℕ)
        → IsLegal (λ state call. reply_at state (inner call)) (λ state call. state_after state (inner call)) opening (operations (numbers call_numbers) reply_numbers entries)
        → IsEachTaken pool.queue.calls (flat_map (λ p. p.taker.taken) passes)
        → IsPoolHistory call_numbers reply_numbers reply_at state_after opening pool.queue.calls entries
    pool_history reply_at state_after opening legal taken = record { legal = legal; each_once = each_once taken; as_listed = as_listed; rising = rising }
