-- Where the writes are legal and each read fits the writes before it, the merge is legal.
use Rattle.std.proofs.Common.{◌≡◌, ℕ, suc, ◌+◌, ◌≤◌, true, false, cond, eqb, List, [], ◌∷◌, ◌++◌, take, length, sym, refl, subst, arith}
use Rattle.std.specs.List.{filter, All, AllByRecursion}
use Rattle.std.proofs.lemmas.Bool.Decides.{nat_tests}
use Rattle.std.proofs.lemmas.List.Elements.{recursion_from_All}
use Rattle.hist_log.specs.declared.entry.Entry.{Entry}
use Rattle.hist_log.specs.History.{operations, state_left, IsLegal}
use Rattle.hist_log.specs.Merge.{reads_at, merged_from, merged, ReadsFit}

-- what is true of each of two lists
both : {X : Type 0} (P : X → Type 0) (xs ys : List X) → AllByRecursion P xs → AllByRecursion P ys → AllByRecursion P (xs ++ ys)
both P [] ys first second = second
both P (x ∷ xs) ys first second = (first.0, both P xs ys first.1 second)

module _ {O C R : Type 0} (call : C → List ℕ) (reply : R → List ℕ) (is_read : List ℕ → Type 0) (reply_at state_after : List ℕ → List ℕ → List ℕ)
    (leaves : (state called : List ℕ) → is_read called → state_after state called ≡ state) where
  -- a read that the state answers so
  abbrev Fits : List ℕ → Entry O C R → Type 0
  Fits state e = is_read (call e.call) × (reply e.reply ≡ reply_at state (call e.call))

  reads_first : (state : List ℕ) (rs rest : List (Entry O C R)) → AllByRecursion (Fits state) rs
      → IsLegal reply_at state_after state (operations call reply rest) → IsLegal reply_at state_after state (operations call reply (rs ++ rest))
  reads_first state [] rest fits legal = legal
  reads_first state (r ∷ rs) rest fits legal =
      (fits.0.1, subst (λ s. IsLegal reply_at state_after s (operations call reply (rs ++ rest))) (sym (leaves state (call r.call) fits.0.0)) (reads_first state rs rest fits.1 legal))

  only_reads : (state : List ℕ) (rs : List (Entry O C R)) → AllByRecursion (Fits state) rs → IsLegal reply_at state_after state (operations call reply rs)
  only_reads state [] fits = tt
  only_reads state (r ∷ rs) fits =
      (fits.0.1, subst (λ s. IsLegal reply_at state_after s (operations call reply rs)) (sym (leaves state (call r.call) fits.0.0)) (only_reads state rs fits.1))

  module _ (reads : List (List (Entry O C R))) where
    -- at each point, the reads of the point fit the state that the writes before it leave
    FitsFrom : List ℕ → ℕ → List (Entry O C R) → Type 0
    FitsFrom state point writes = (j : ℕ) → j ≤ length writes → AllByRecursion (Fits (state_left state_after state (operations call reply (take j writes)))) (reads_at (λ e. e.receipt) reads (point + j))

    legal_from : (state : List ℕ) (point : ℕ) (writes : List (Entry O C R)) → IsLegal reply_at state_after state (operations call reply writes) → FitsFrom state point writes
        → IsLegal reply_at state_after state (operations call reply (merged_from (λ e. e.receipt) reads point writes))
    unfolding FitsFrom
    legal_from state point [] legal fits =
        only_reads state (reads_at (λ e. e.receipt) reads point) (subst (λ n. AllByRecursion (Fits state) (reads_at (λ e. e.receipt) reads n)) {x = point + 0} (omega arith) (fits 0 (omega arith)))
    legal_from state point (w ∷ ws) legal fits =
        reads_first state (reads_at (λ e. e.receipt) reads point) (w ∷ merged_from (λ e. e.receipt) reads (suc point) ws)
        (subst (λ n. AllByRecursion (Fits state) (reads_at (λ e. e.receipt) reads n)) {x = point + 0} (omega arith) (fits 0 (omega arith))) (
          legal.0,
          legal_from (state_after state (call w.call)) (suc point) ws legal.1 (λ j below.
              subst (λ n. AllByRecursion (Fits (state_left state_after (state_after state (call w.call)) (operations call reply (take j ws)))) (reads_at (λ e. e.receipt) reads n)) {x = point + suc j} (omega arith) (fits (suc j) (omega arith))),
        )

    -- one list's reads of one point fit, where all of them do
    at_point : (state : List ℕ) (writes : List (Entry O C R)) (point : ℕ) (l : List (Entry O C R))
        → AllByRecursion (λ e. Fits (state_left state_after state (operations call reply (take e.receipt writes))) e) l
        → AllByRecursion (Fits (state_left state_after state (operations call reply (take point writes)))) (filter (λ e. eqb e.receipt point) l)
    at_point state writes point [] fits = tt
    at_point state writes point (e ∷ l) fits =
        let P : ℕ → Type 0 = λ n. Fits (state_left state_after state (operations call reply (take n writes))) e in
        let all : List (Entry O C R) → Type 0 = AllByRecursion (Fits (state_left state_after state (operations call reply (take point writes)))) in
        let rest = at_point state writes point l fits.1 in
        let kept = filter (λ x. eqb x.receipt point) l in
        elim (eqb e.receipt point) as (λ b. eqb e.receipt point ≡ b → all (cond b (e ∷ kept) kept)) [
          | true ↦ λ same. let is : e.receipt ≡ point = grind (arith, nat_tests) in (subst P is fits.0, rest)
          | false ↦ λ other. rest
        ] refl

    all_at_point : (state : List ℕ) (writes : List (Entry O C R)) (point : ℕ) (ls : List (List (Entry O C R)))
        → AllByRecursion (All (λ e. Fits (state_left state_after state (operations call reply (take e.receipt writes))) e)) ls
        → AllByRecursion (Fits (state_left state_after state (operations call reply (take point writes)))) (reads_at (λ e. e.receipt) ls point)
    all_at_point state writes point [] fits = tt
    all_at_point state writes point (l ∷ ls) fits =
        let P = λ (e : Entry O C R). Fits (state_left state_after state (operations call reply (take e.receipt writes))) e in
        both (Fits (state_left state_after state (operations call reply (take point writes)))) (filter (λ e. eqb e.receipt point) l) (reads_at (λ e. e.receipt) ls point)
        (at_point state writes point l (recursion_from_All P l fits.0)) (all_at_point state writes point ls fits.1)

    pub legal_merge : (state : List ℕ) (writes : List (Entry O C R)) → IsLegal reply_at state_after state (operations call reply writes)
        → ReadsFit call reply is_read reply_at state_after state writes reads
        → IsLegal reply_at state_after state (operations call reply (merged (λ e. e.receipt) writes reads))
    unfolding FitsFrom
    legal_merge state writes legal fits =
        let P = All (λ (e : Entry O C R). Fits (state_left state_after state (operations call reply (take e.receipt writes))) e) in
        legal_from state 0 writes legal (λ j below.
        subst (λ n. AllByRecursion (Fits (state_left state_after state (operations call reply (take j writes)))) (reads_at (λ e. e.receipt) reads n)) {x = j} (omega arith)
        (all_at_point state writes j reads (recursion_from_All P reads fits)))
