-- What the merged history of a cell says of the directory and of its workers.
use Rattle.std.proofs.Common.{◌≡◌, ◌≢◌, ℕ, suc, ◌≤◌, Bool, true, false, cond, eqb, List, [], ◌∷◌, ◌++◌, map, sym, refl, ap, ◌∙◌, arith, ne_eqb}
use Rattle.std.specs.List.{filter, All, AllByRecursion}
use Rattle.std.proofs.lemmas.List.{map-append}
use Rattle.std.proofs.lemmas.List.Elements.{All-head, All-tail}
use Rattle.dir_table.specs.declared.calls.DirCall.{DirCall}
use Rattle.dir_table.specs.declared.calls.DirReply.{DirReply}
use Rattle.dir_table.specs.Numbers.{call_numbers, reply_numbers}
use Rattle.dir_table.specs.ObjectLaws.{calls_differ}
use Rattle.hist_log.specs.declared.entry.Entry.{Entry}
use Rattle.hist_log.specs.Merge.{reads_at, merged_from}
use Rattle.shfl_table.specs.declared.kept.Action.{Action}
use Rattle.shfl_table.specs.Histories.{actions_by}
use Rattle.shfl_table.proofs.Histories.{said_by-append}
use Rattle.shfl_table.specs.Books.{action, actions}
use Rattle.trace_text.specs.declared.trace.TraceCall.{TraceCall}
use Rattle.trace_text.specs.Report.{done_of}
use Rattle.trace_text.specs.Histories.{Made, made_of, made_in, of_worker}
use Rattle.trace_text.specs.Traces.{IsCallOf}
use Rattle.shfl_workers.proofs.Turns.{of_worker-append, none_of_other}
use Rattle.trace_text.specs.Histories.{made_by}

same_calls : (a b : List DirCall) → map call_numbers a ≡ map call_numbers b → a ≡ b
same_calls [] [] same = refl
same_calls [] (y ∷ ys) same = absurd (cc)
same_calls (x ∷ xs) [] same = absurd (cc)
same_calls (x ∷ xs) (y ∷ ys) same =
    let first : call_numbers x ≡ call_numbers y = cc in
    let rest : map call_numbers xs ≡ map call_numbers ys = cc in
    λ j. calls_differ x y first j ∷ same_calls xs ys rest j

none_first : (b : Bool) (x : Action) (l : List Action) → cond b (x ∷ l) l ≡ [] → (b ≡ false) × (l ≡ [])
none_first true x l none = absurd (cc)
none_first false x l none = (refl, none)

module _ {O : Type 0} where
  abbrev acts : List (Entry O DirCall DirReply) → List Action
  acts = actions call_numbers reply_numbers

  -- a worker's actions are those of its entries
  acts_of_worker : (k : ℕ) (es : List (Entry O DirCall DirReply)) → map (λ (a : Action). a.call) (actions_by k (acts es)) ≡ map call_numbers (of_worker k (map made_of (map done_of es)))
  acts_of_worker k [] = refl
  acts_of_worker k (e ∷ es) =
      let rest = acts_of_worker k es in
      elim (eqb e.worker k) as (λ b. map (λ (a : Action). a.call) (cond b (action call_numbers reply_numbers e ∷ actions_by k (acts es)) (actions_by k (acts es)))
      ≡ map call_numbers (map (λ (m : Made). m.call) (cond b (made_of (done_of e) ∷ filter (λ (m : Made). eqb m.worker k) (map made_of (map done_of es))) (filter (λ (m : Made). eqb m.worker k) (map made_of (map done_of es)))))) [
        | true ↦ ap (λ l. call_numbers e.call ∷ l) rest
        | false ↦ rest
      ]

  pub made_once : (k : ℕ) (es : List (Entry O DirCall DirReply)) (calls : List DirCall) → map (λ (a : Action). a.call) (actions_by k (acts es)) ≡ map call_numbers calls
      → of_worker k (map made_of (map done_of es)) ≡ calls
  made_once k es calls same = same_calls _ _ (sym (acts_of_worker k es) ∙ same)

  none_kept : (k point : ℕ) (l : List (Entry O DirCall DirReply)) → All (λ e. e.worker ≢ k) l → actions_by k (acts (filter (λ e. eqb e.receipt point) l)) ≡ []
  none_kept k point [] other = refl
  none_kept k point (e ∷ es) other =
      let rest = none_kept k point es (All-tail (λ x. x.worker ≢ k) e es other) in
      let miss : eqb e.worker k ≡ false = ne_eqb e.worker k (All-head (λ x. x.worker ≢ k) e es other) in
      let kept = filter (λ x. eqb x.receipt point) es in
      elim (eqb e.receipt point) as (λ b. actions_by k (acts (cond b (e ∷ kept) kept)) ≡ []) [
        | true ↦ ap (λ b. cond b (action call_numbers reply_numbers e ∷ actions_by k (acts kept)) (actions_by k (acts kept))) miss ∙ rest
        | false ↦ rest
      ]

  none_at : (k point : ℕ) (ls : List (List (Entry O DirCall DirReply))) → All (All (λ e. e.worker ≢ k)) ls → actions_by k (acts (reads_at (λ e. e.receipt) ls point)) ≡ []
  none_at k point [] other = refl
  none_at k point (l ∷ ls) other =
      let here = filter (λ (e : Entry O DirCall DirReply). eqb e.receipt point) l in let later = reads_at (λ (e : Entry O DirCall DirReply). e.receipt) ls point in
      ap (actions_by k) (map-append (action call_numbers reply_numbers) here later) ∙ said_by-append k (acts here) (acts later)
      ∙ (λ j. none_kept k point l (All-head (All (λ e. e.worker ≢ k)) l ls other) j ++ none_at k point ls (All-tail (All (λ e. e.worker ≢ k)) l ls other) j)

  -- who has no pass has no entry
  pub nobody : (k point : ℕ) (ls : List (List (Entry O DirCall DirReply))) (ws : List (Entry O DirCall DirReply)) → All (All (λ e. e.worker ≢ k)) ls → actions_by k (acts ws) ≡ []
      → actions_by k (acts (merged_from (λ e. e.receipt) ls point ws)) ≡ []
  nobody k point ls [] other none = none_at k point ls other
  nobody k point ls (w ∷ ws) other none =
      let here = reads_at (λ (e : Entry O DirCall DirReply). e.receipt) ls point in let later = merged_from (λ (e : Entry O DirCall DirReply). e.receipt) ls (suc point) ws in
      let split = none_first (eqb w.worker k) (action call_numbers reply_numbers w) (actions_by k (acts ws)) none in
      ap (actions_by k) (map-append (action call_numbers reply_numbers) here (w ∷ later)) ∙ said_by-append k (acts here) (acts (w ∷ later))
      ∙ (λ j. none_at k point ls other j ++ cond (split.0 j) (action call_numbers reply_numbers w ∷ actions_by k (acts later)) (actions_by k (acts later)))
      ∙ nobody k (suc point) ls ws other split.1

-- nobody else makes a call
pub nobody_makes : (k workers names policies : ℕ) (calls : List TraceCall) → workers ≤ k → AllByRecursion (IsCallOf workers names policies) calls → of_worker k (made_in calls) ≡ []
nobody_makes k workers names policies [] past all = refl
nobody_makes k workers names policies (c ∷ cs) past all =
    of_worker-append k (made_by c.worker c.act) (made_in cs)
    ∙ (λ j. none_of_other k c.worker c.act (λ same. let lt = all.0.worker in omega (arith, same, lt, past)) j ++ nobody_makes k workers names policies cs past all.1 j)
