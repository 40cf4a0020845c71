-- A call is the last of its pass's calls, and the merged history has each pass's calls in its order.
use Rattle.std.proofs.Common.{◌≡◌, ◌≢◌, ℕ, zero, suc, ◌+◌, ◌<◌, ◌≤◌, Bool, true, false, eqb, cond, List, [], ◌∷◌, ◌++◌, map, length, get_or, sym, refl, ap, ◌∙◌, subst, arith, append_assoc, append-nil, eq-eqb, ne_eqb, length-append}
use Rattle.std.specs.List.{All, filter, flat_map}
use Rattle.std.proofs.lemmas.List.{map-append, append_cancel_left}
use Rattle.std.proofs.lemmas.List.Elements.{All-head, All-tail, filter-append}
use Rattle.hist_log.specs.declared.entry.Entry.{Entry}
use Rattle.hist_log.specs.Merge.{reads_at, merged_from, merged}
use Rattle.shfl_table.specs.declared.kept.Action.{Action}
use Rattle.shfl_table.specs.Histories.{actions_by, HasSeen}
use Rattle.shfl_table.proofs.Histories.{said_by-append}
use Rattle.shfl_table.specs.Books.{action, actions}
use Rattle.rw_cell.specs.CallOrder.{reads_after, calls_from}

-- no own action is among those that a pass saw besides
pub none-between : (worker : ℕ) (total seen between : List Action) → total ≡ seen ++ between → actions_by worker total ≡ actions_by worker seen → actions_by worker between ≡ []
none-between worker total seen between is same =
    append_cancel_left (actions_by worker seen) (actions_by worker between) []
    (sym (said_by-append worker seen between) ∙ (ap (actions_by worker) (sym is) ∙ (same ∙ sym (append-nil (actions_by worker seen)))))

behind : (b : Bool) (x : Action) (r c a : List Action) → r ++ cond b (x ∷ (c ++ a)) (c ++ a) ≡ (r ++ cond b (x ∷ c) c) ++ a
behind true x r c a = sym (append_assoc r (x ∷ c) a)
behind false x r c a = sym (append_assoc r c a)

module _ {O C R : Type 0} (call : C → List ℕ) (reply : R → List ℕ) where
  -- no read is after so many writes
  reads_after-none : (point : ℕ) (reads : List (Entry O C R)) → All (λ e. e.receipt < point) reads → reads_after call reply point reads ≡ []
  reads_after-none point [] below = refl
  reads_after-none point (e ∷ es) below =
      let here = All-head (λ x. x.receipt < point) e es below in
      let miss : eqb e.receipt point ≡ false = ne_eqb e.receipt point (λ same. omega arith) in
      ap (λ b. actions call reply (cond b (e ∷ filter (λ x. eqb x.receipt point) es) (filter (λ x. eqb x.receipt point) es))) miss
      ∙ reads_after-none point es (All-tail (λ x. x.receipt < point) e es below)

  module _ (reads : List (Entry O C R)) (r : Entry O C R) where
    one-kept : (point : ℕ) (b : Bool) → eqb r.receipt point ≡ b → reads_after call reply point (reads ++ r ∷ []) ≡ reads_after call reply point reads ++ actions call reply (cond b (r ∷ []) [])
    one-kept point b is =
        ap (actions call reply) (filter-append (λ x. eqb x.receipt point) reads (r ∷ []) ∙ ap (λ c. filter (λ x. eqb x.receipt point) reads ++ cond c (r ∷ []) []) is)
        ∙ map-append (action call reply) (filter (λ x. eqb x.receipt point) reads) (cond b (r ∷ []) [])

    reads_after-here : (point : ℕ) → r.receipt ≡ point → reads_after call reply point (reads ++ r ∷ []) ≡ reads_after call reply point reads ++ action call reply r ∷ []
    reads_after-here point is = one-kept point true (eq-eqb r.receipt point is)

    reads_after-there : (point : ℕ) → r.receipt ≢ point → reads_after call reply point (reads ++ r ∷ []) ≡ reads_after call reply point reads
    reads_after-there point other = one-kept point false (ne_eqb r.receipt point other) ∙ append-nil (reads_after call reply point reads)

  module _ (worker : ℕ) where
    -- where all reads are before, only the own writes are left
    calls_from-writes : (point : ℕ) (ws : List Action) (reads : List (Entry O C R)) → All (λ e. e.receipt < point) reads → calls_from call reply worker point ws reads ≡ actions_by worker ws
    calls_from-writes point [] reads below = reads_after-none point reads below
    calls_from-writes point (w ∷ ws) reads below =
        let later = calls_from-writes (suc point) ws reads (λ k d h. let b = below k d h in omega arith) in
        ap (λ l. l ++ cond (eqb w.worker worker) (w ∷ calls_from call reply worker (suc point) ws reads) (calls_from call reply worker (suc point) ws reads)) (reads_after-none point reads below)
        ∙ ap (λ l. cond (eqb w.worker worker) (w ∷ l) l) later

    -- writes more, after all reads
    pub calls_from-more : (point : ℕ) (xs ys : List Action) (reads : List (Entry O C R)) → All (λ e. e.receipt ≤ point + length xs) reads
        → calls_from call reply worker point (xs ++ ys) reads ≡ calls_from call reply worker point xs reads ++ actions_by worker ys
    calls_from-more point [] [] reads within = sym (append-nil (reads_after call reply point reads))
    calls_from-more point [] (y ∷ ys) reads within =
        let later = calls_from-writes (suc point) ys reads (λ k d h. let b = within k d h in omega arith) in
        ap (λ l. reads_after call reply point reads ++ cond (eqb y.worker worker) (y ∷ l) l) later
    calls_from-more point (x ∷ xs) ys reads within =
        let later = calls_from-more (suc point) xs ys reads (λ k d h. let b = within k d h in omega arith) in
        ap (λ l. reads_after call reply point reads ++ cond (eqb x.worker worker) (x ∷ l) l) later
        ∙ behind (eqb x.worker worker) x (reads_after call reply point reads) (calls_from call reply worker (suc point) xs reads) (actions_by worker ys)

    -- a read more, after all writes
    pub calls_from-read : (point : ℕ) (ws : List Action) (reads : List (Entry O C R)) (r : Entry O C R) → r.receipt ≡ point + length ws
        → calls_from call reply worker point ws (reads ++ r ∷ []) ≡ calls_from call reply worker point ws reads ++ action call reply r ∷ []
    calls_from-read point [] reads r is = reads_after-here reads r point (omega arith)
    calls_from-read point (w ∷ ws) reads r is =
        let later = calls_from-read (suc point) ws reads r (omega arith) in
        let other : r.receipt ≢ point = λ same. omega arith in
        (λ j. reads_after-there reads r point other j ++ cond (eqb w.worker worker) (w ∷ later j) (later j))
        ∙ behind (eqb w.worker worker) w (reads_after call reply point reads) (calls_from call reply worker (suc point) ws reads) (action call reply r ∷ [])

  -- what another worker's list gives
  none-of : (worker point : ℕ) (l : List (Entry O C R)) → All (λ e. e.worker ≢ worker) l → actions_by worker (actions call reply (filter (λ e. eqb e.receipt point) l)) ≡ []
  none-of worker point [] others = refl
  none-of worker point (e ∷ es) others =
      let rest = none-of worker point es (All-tail (λ x. x.worker ≢ worker) e es others) in
      let miss : eqb e.worker worker ≡ false = ne_eqb e.worker worker (All-head (λ x. x.worker ≢ worker) e es others) in
      elim (eqb e.receipt point) as (λ b. actions_by worker (actions call reply (cond b (e ∷ filter (λ x. eqb x.receipt point) es) (filter (λ x. eqb x.receipt point) es))) ≡ []) [
        | true ↦ ap (λ c. cond c (action call reply e ∷ actions_by worker (actions call reply (filter (λ x. eqb x.receipt point) es))) (actions_by worker (actions call reply (filter (λ x. eqb x.receipt point) es)))) miss ∙ rest
        | false ↦ rest
      ]

  -- and its own
  all-of : (worker point : ℕ) (l : List (Entry O C R)) → All (λ e. e.worker ≡ worker) l → actions_by worker (actions call reply (filter (λ e. eqb e.receipt point) l)) ≡ reads_after call reply point l
  all-of worker point [] own = refl
  all-of worker point (e ∷ es) own =
      let rest = all-of worker point es (All-tail (λ x. x.worker ≡ worker) e es own) in
      let hit : eqb e.worker worker ≡ true = eq-eqb e.worker worker (All-head (λ x. x.worker ≡ worker) e es own) in
      elim (eqb e.receipt point) as (λ b. actions_by worker (actions call reply (cond b (e ∷ filter (λ x. eqb x.receipt point) es) (filter (λ x. eqb x.receipt point) es))) ≡ actions call reply (cond b (e ∷ filter (λ x. eqb x.receipt point) es) (filter (λ x. eqb x.receipt point) es))) [
        | true ↦ ap (λ c. cond c (action call reply e ∷ actions_by worker (actions call reply (filter (λ x. eqb x.receipt point) es))) (actions_by worker (actions call reply (filter (λ x. eqb x.receipt point) es)))) hit ∙ ap (λ (l : List Action). action call reply e ∷ l) rest
        | false ↦ rest
      ]

  -- list j, counted from some number on, has the entries of worker j
  abbrev pub AreOwnFrom : ℕ → List (List (Entry O C R)) → Type 0
  AreOwnFrom first lists = (j : ℕ) (d : List (Entry O C R)) → j < length lists → All (λ e. e.worker ≡ first + j) (get_or lists j d)

  own-tail : (first : ℕ) (l : List (Entry O C R)) (ls : List (List (Entry O C R))) → AreOwnFrom first (l ∷ ls) → AreOwnFrom (suc first) ls
  own-tail first l ls own j d h i e below = let o = own (suc j) d (omega arith) i e below in omega arith

  split-actions : (worker : ℕ) (xs ys : List (Entry O C R)) → actions_by worker (actions call reply (xs ++ ys)) ≡ actions_by worker (actions call reply xs) ++ actions_by worker (actions call reply ys)
  split-actions worker xs ys = ap (actions_by worker) (map-append (action call reply) xs ys) ∙ said_by-append worker (actions call reply xs) (actions call reply ys)

  none-at : (worker point first : ℕ) (lists : List (List (Entry O C R))) → worker < first → AreOwnFrom first lists → actions_by worker (actions call reply (reads_at (λ e. e.receipt) lists point)) ≡ []
  none-at worker point first [] less own = refl
  none-at worker point first (l ∷ ls) less own =
      split-actions worker (filter (λ e. eqb e.receipt point) l) (reads_at (λ e. e.receipt) ls point)
      ∙ (λ j. none-of worker point l (λ i e h same. let o = own 0 l (omega arith) i e h in omega arith) j ++ none-at worker point (suc first) ls (omega arith) (own-tail first l ls own) j)

  own-at : (i worker point first : ℕ) (lists : List (List (Entry O C R))) → worker ≡ first + i → i < length lists → AreOwnFrom first lists
      → actions_by worker (actions call reply (reads_at (λ e. e.receipt) lists point)) ≡ reads_after call reply point (get_or lists i [])
  own-at i worker point first [] is h own = absurd (omega arith)
  own-at zero worker point first (l ∷ ls) is h own =
      split-actions worker (filter (λ e. eqb e.receipt point) l) (reads_at (λ e. e.receipt) ls point)
      ∙ ((λ j. all-of worker point l (λ i e b. let o = own 0 l (omega arith) i e b in omega arith) j ++ none-at worker point (suc first) ls (omega arith) (own-tail first l ls own) j)
      ∙ append-nil (reads_after call reply point l))
  own-at (suc i) worker point first (l ∷ ls) is h own =
      split-actions worker (filter (λ e. eqb e.receipt point) l) (reads_at (λ e. e.receipt) ls point)
      ∙ (λ j. none-of worker point l (λ i e b same. let o = own 0 l (omega arith) i e b in omega arith) j ++ own-at i worker point (suc first) ls (omega arith) (omega arith) (own-tail first l ls own) j)

  module _ (worker : ℕ) (lists : List (List (Entry O C R))) (inside : worker < length lists) (own : AreOwnFrom 0 lists) where
    at : (point : ℕ) → actions_by worker (actions call reply (reads_at (λ e. e.receipt) lists point)) ≡ reads_after call reply point (get_or lists worker [])
    at point = own-at worker worker point 0 lists (omega arith) inside own

    calls-merged : (point : ℕ) (writes : List (Entry O C R)) → actions_by worker (actions call reply (merged_from (λ e. e.receipt) lists point writes)) ≡ calls_from call reply worker point (actions call reply writes) (get_or lists worker [])
    calls-merged point [] = at point
    calls-merged point (w ∷ ws) =
        split-actions worker (reads_at (λ e. e.receipt) lists point) (w ∷ merged_from (λ e. e.receipt) lists (suc point) ws)
        ∙ (λ j. at point j ++ cond (eqb w.worker worker) (action call reply w ∷ calls-merged (suc point) ws j) (calls-merged (suc point) ws j))

    -- the merged history has the worker's calls in its order
    pub calls_in_order : (writes : List (Entry O C R)) (seen rest : List Action) (reads : List (Entry O C R)) → actions call reply writes ≡ seen ++ rest → actions_by worker rest ≡ []
        → get_or lists worker [] ≡ reads → All (λ e. e.receipt ≤ length seen) reads
        → actions_by worker (actions call reply (merged (λ e. e.receipt) writes lists)) ≡ calls_from call reply worker 0 seen reads
    calls_in_order writes seen rest reads is none list within =
        calls-merged 0 writes
        ∙ ((λ j. calls_from call reply worker 0 (is j) (list j))
        ∙ (calls_from-more worker 0 seen rest reads (λ k d h. let w = within k d h in omega arith)
        ∙ (ap (λ l. calls_from call reply worker 0 seen reads ++ l) none ∙ append-nil (calls_from call reply worker 0 seen reads))))
