-- Reads put between writes leave what the writes leave.
use Rattle.std.proofs.Common.{◌≡◌, ℕ, suc, true, false, cond, eqb, List, [], ◌∷◌, ◌++◌, refl, ap, ◌∙◌}
use Rattle.std.specs.List.{filter, All}
use Rattle.std.proofs.lemmas.List.{map-append}
use Rattle.std.proofs.lemmas.List.Elements.{All-head, All-tail}
use Rattle.hist_log.specs.declared.entry.Entry.{Entry}
use Rattle.hist_log.specs.History.{operation, operations, state_left}
use Rattle.hist_log.specs.Merge.{reads_at, merged_from, merged, AreReads}
use Rattle.hist_log.proofs.LongerHistories.{state_left-append}

module _ {O C R : Type 0} (call : C → List ℕ) (reply : R → List ℕ) (is_read : List ℕ → Type 0) (state_after : List ℕ → List ℕ → List ℕ)
    (leaves : (state called : List ℕ) → is_read called → state_after state called ≡ state) where
  -- the state that these entries leave
  abbrev left : List ℕ → List (Entry O C R) → List ℕ
  left state es = state_left state_after state (operations call reply es)

  left_append : (state : List ℕ) (xs ys : List (Entry O C R)) → left state (xs ++ ys) ≡ left (left state xs) ys
  left_append state xs ys = ap (state_left state_after state) (map-append (operation call reply) xs ys)
      ∙ state_left-append state_after state_after state (operations call reply xs) (operations call reply ys)

  kept_leave : (state : List ℕ) (point : ℕ) (l : List (Entry O C R)) → All (λ e. is_read (call e.call)) l → left state (filter (λ e. eqb e.receipt point) l) ≡ state
  kept_leave state point [] reads = refl
  kept_leave state point (e ∷ es) reads =
      let P : Entry O C R → Type 0 = λ x. is_read (call x.call) in
      let rest = kept_leave state point es (All-tail P e es reads) in
      let kept = filter (λ (x : Entry O C R). eqb x.receipt point) es in
      elim (eqb e.receipt point) as (λ b. left state (cond b (e ∷ kept) kept) ≡ state) [
        | true ↦ ap (λ s. left s kept) (leaves state (call e.call) (All-head P e es reads)) ∙ rest
        | false ↦ rest
      ]

  at_leave : (state : List ℕ) (point : ℕ) (ls : List (List (Entry O C R))) → AreReads call is_read ls → left state (reads_at (λ e. e.receipt) ls point) ≡ state
  at_leave state point [] reads = refl
  at_leave state point (l ∷ ls) reads =
      let P : List (Entry O C R) → Type 0 = All (λ x. is_read (call x.call)) in
      let later = reads_at (λ (e : Entry O C R). e.receipt) ls point in
      left_append state (filter (λ (e : Entry O C R). eqb e.receipt point) l) later
      ∙ ap (λ s. left s later) (kept_leave state point l (All-head P l ls reads))
      ∙ at_leave state point ls (All-tail P l ls reads)

  from_leave : (state : List ℕ) (point : ℕ) (ls : List (List (Entry O C R))) (ws : List (Entry O C R)) → AreReads call is_read ls
      → left state (merged_from (λ e. e.receipt) ls point ws) ≡ left state ws
  from_leave state point ls [] reads = at_leave state point ls reads
  from_leave state point ls (w ∷ ws) reads =
      let here = reads_at (λ (e : Entry O C R). e.receipt) ls point in
      let later = merged_from (λ (e : Entry O C R). e.receipt) ls (suc point) ws in
      left_append state here (w ∷ later)
      ∙ ap (λ s. left s (w ∷ later)) (at_leave state point ls reads)
      ∙ from_leave (state_after state (call w.call)) (suc point) ls ws reads

  pub reads_leave_all : (state : List ℕ) (writes : List (Entry O C R)) (reads : List (List (Entry O C R))) → AreReads call is_read reads
      → left state (merged (λ e. e.receipt) writes reads) ≡ left state writes
  reads_leave_all state writes reads are = from_leave state 0 reads writes are
