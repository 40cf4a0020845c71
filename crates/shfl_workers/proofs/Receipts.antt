-- The receipts of a history that was merged of writes and reads.
use Rattle.std.proofs.Common.{◌≡◌, ℕ, zero, suc, ◌+◌, ◌==◌, Bool, true, false, not, cond, List, [], ◌∷◌, ◌++◌, take, slice_get, Some, refl, sym, ap, ◌∙◌, subst, arith, append-nil, eq-eqb, ne_eqb}
use Rattle.std.specs.List.{count_by, filter, AllByRecursion}
use Rattle.std.proofs.lemmas.List.Sums.{sum_by-cons}
use native.Mathlib.Decide.{ℕ_discrete}
use mathlib.Core.Logic.{dite}
use Rattle.dir_table.specs.declared.calls.DirCall.{DirCall}
use Rattle.dir_table.specs.declared.calls.DirReply.{DirReply}
use Rattle.dir_table.specs.Numbers.{call_numbers, call_from, reply_numbers}
use Rattle.dir_table.specs.Meanings.{is_read}
use Rattle.dir_table.specs.ObjectLaws.{call_again}
use Rattle.hist_log.specs.declared.entry.Entry.{Entry}
use Rattle.hist_log.specs.Merge.{reads_at, merged_from, merged}
use Rattle.policy_versions.proofs.Indexed.{some_same}
use Rattle.shfl_table.specs.declared.kept.Action.{Action}
use Rattle.shfl_table.specs.Histories.{actions_by}
use Rattle.shfl_table.specs.Books.{HavePlaces, action, actions}
use Rattle.shfl_workers.specs.Receipts.{CountWrites}

-- an action that is no read
abbrev pub IsWrite : Action → Type 0
IsWrite a = is_read (call_from a.call) ≡ false

none_more : (n : ℕ) (b : Bool) → b ≡ true → n + cond (not b) 1 0 ≡ n
none_more n true is = omega arith
none_more n false is = absurd (cc)

one_more : (n : ℕ) (b : Bool) → b ≡ false → n + cond (not b) 1 0 ≡ suc n
one_more n true is = absurd (cc)
one_more n false is = omega arith

first_kept : (b : Bool) (x : Action) (xs : List Action) → b ≡ true → AllByRecursion IsWrite (cond b (x ∷ xs) xs) → IsWrite x
first_kept true x xs is all = all.0
first_kept false x xs is all = absurd (cc)

others_kept : (b : Bool) (x : Action) (xs : List Action) → AllByRecursion IsWrite (cond b (x ∷ xs) xs) → AllByRecursion IsWrite xs
others_kept true x xs all = all.1
others_kept false x xs all = all

module _ {O : Type 0} where
  -- from so many writes on, the receipts count them
  abbrev CountFrom : ℕ → List (Entry O DirCall DirReply) → Type 0
  CountFrom before [] = Unit {0}
  CountFrom before (e ∷ es) = (e.receipt ≡ before) × CountFrom (before + cond (not (is_read e.call)) 1 0) es

  counted : (before : ℕ) (es : List (Entry O DirCall DirReply)) → CountFrom before es → (k : ℕ) (e : Entry O DirCall DirReply) → slice_get es k ≡ Some e → e.receipt ≡ before + count_by (λ x. not (is_read x.call)) (take k es)
  counted before [] all k e at = absurd (cc)
  counted before (x ∷ xs) all zero e at = let same : x ≡ e = some_same x e at in let here = ap (λ (z : Entry O DirCall DirReply). z.receipt) same in let first : x.receipt ≡ before = all.0 in omega arith
  counted before (x ∷ xs) all (suc k) e at =
      let rest = counted (before + cond (not (is_read x.call)) 1 0) xs all.1 k e at in
      let step = sum_by-cons (λ (y : Entry O DirCall DirReply). cond (not (is_read y.call)) 1 0) x (take k xs) in omega arith

  -- a read after so many writes
  abbrev pub IsReadAt : ℕ → Entry O DirCall DirReply → Type 0
  IsReadAt point e = (e.receipt ≡ point) × (is_read e.call ≡ true)

  reads_first : (point : ℕ) (l rest : List (Entry O DirCall DirReply)) → AllByRecursion (IsReadAt point) l → CountFrom point rest → CountFrom point (l ++ rest)
  reads_first point [] rest all counts = counts
  reads_first point (e ∷ es) rest all counts =
      let none : point + cond (not (is_read e.call)) 1 0 ≡ point = none_more point (is_read e.call) all.0.1 in
      (all.0.0, subst (λ n. CountFrom n (es ++ rest)) (sym none) (reads_first point es rest all.1 counts))

  kept : (point : ℕ) (l : List (Entry O DirCall DirReply)) → AllByRecursion (λ e. is_read e.call ≡ true) l → AllByRecursion (IsReadAt point) (filter (λ e. e.receipt == point) l)
  kept point [] all = tt
  kept point (e ∷ es) all = let others = filter (λ (x : Entry O DirCall DirReply). x.receipt == point) es in
      dite (ℕ_discrete e.receipt point)
      (λ same. subst (λ b. AllByRecursion (IsReadAt point) (cond b (e ∷ others) others)) (sym (eq-eqb e.receipt point same)) ((same, all.0), kept point es all.1))
      (λ ne. subst (λ b. AllByRecursion (IsReadAt point) (cond b (e ∷ others) others)) (sym (ne_eqb e.receipt point ne)) (kept point es all.1))

  both : (P : Entry O DirCall DirReply → Type 0) (xs ys : List (Entry O DirCall DirReply)) → AllByRecursion P xs → AllByRecursion P ys → AllByRecursion P (xs ++ ys)
  both P [] ys all more = more
  both P (x ∷ xs) ys all more = (all.0, both P xs ys all.1 more)

  pub kept_at : (point : ℕ) (reads : List (List (Entry O DirCall DirReply))) → AllByRecursion (AllByRecursion (λ e. is_read e.call ≡ true)) reads → AllByRecursion (IsReadAt point) (reads_at (λ e. e.receipt) reads point)
  kept_at point [] all = tt
  kept_at point (l ∷ ls) all = both (IsReadAt point) (filter (λ e. e.receipt == point) l) (reads_at (λ e. e.receipt) ls point) (kept point l all.0) (kept_at point ls all.1)

  counts_from : (reads : List (List (Entry O DirCall DirReply))) → AllByRecursion (AllByRecursion (λ e. is_read e.call ≡ true)) reads → (point : ℕ) (ws : List (Entry O DirCall DirReply)) → AllByRecursion (λ e. is_read e.call ≡ false) ws
      → ((place : ℕ) (e : Entry O DirCall DirReply) → slice_get ws place ≡ Some e → e.receipt ≡ point + place) → CountFrom point (merged_from (λ e. e.receipt) reads point ws)
  counts_from reads all point [] writes placed = subst (CountFrom point) (append-nil (reads_at (λ e. e.receipt) reads point)) (reads_first point (reads_at (λ e. e.receipt) reads point) [] (kept_at point reads all) tt)
  counts_from reads all point (w ∷ ws) writes placed =
      let one : point + cond (not (is_read w.call)) 1 0 ≡ suc point = one_more point (is_read w.call) writes.0 in
      let here : w.receipt ≡ point = (let p = placed 0 w refl in omega arith) in
      reads_first point (reads_at (λ e. e.receipt) reads point) (w ∷ merged_from (λ e. e.receipt) reads (suc point) ws) (kept_at point reads all) (
        here,
        subst (λ n. CountFrom n (merged_from (λ e. e.receipt) reads (suc point) ws)) (sym one)
            (counts_from reads all (suc point) ws writes.1 (λ place e at. let p = placed (suc place) e at in omega arith)),
      )

  -- each receipt is the number of writes before
  pub merged_counts : (writes : List (Entry O DirCall DirReply)) (reads : List (List (Entry O DirCall DirReply))) → AllByRecursion (AllByRecursion (λ e. is_read e.call ≡ true)) reads → AllByRecursion (λ e. is_read e.call ≡ false) writes → HavePlaces writes
      → CountWrites (merged (λ e. e.receipt) writes reads)
  merged_counts writes reads all none placed place e at =
      let from_none = counts_from reads all 0 writes none (λ k w h. let p = placed k w h in omega arith) in
      let here = counted 0 (merged (λ e. e.receipt) writes reads) from_none place e at in omega arith

  -- where each worker's actions are writes, so is each entry
  pub only_writes : (es : List (Entry O DirCall DirReply)) → ((k : ℕ) → AllByRecursion IsWrite (actions_by k (actions call_numbers reply_numbers es))) → AllByRecursion (λ e. is_read e.call ≡ false) es
  only_writes [] each = tt
  only_writes (e ∷ es) each =
      let a = action call_numbers reply_numbers e in let others : ℕ → List Action = λ k. actions_by k (actions call_numbers reply_numbers es) in (
        sym (ap is_read (call_again e.call)) ∙ first_kept (e.worker == e.worker) a (others e.worker) (eq-eqb e.worker e.worker refl) (each e.worker),
        only_writes es (λ k. others_kept (e.worker == k) a (others k) (each k)),
      )
