-- The list of holders that a world gives is the hold that it shows.
use Rattle.std.proofs.Common.{◌≡◌, ◌≢◌, ℕ, zero, suc, ◌+◌, ◌<◌, ◌≤◌, List, [], ◌∷◌, ◌++◌, Bool, true, false, cond, ◌==◌, ◌&&◌, not, refl, sym, ap, ◌∙◌, subst, ⊎_elim, arith}
use Rattle.std.proofs.lemmas.Bool.Decides.{nat_tests}
use Rattle.shfl_line.specs.declared.events.Mode.{Mode}
use Rattle.shfl_line.specs.Line.{Rises, is_write, holds}
use Rattle.shfl_line.proofs.Chain
use Rattle.shfl_line.proofs.Holders.{rises-push}
use Rattle.shfl_core.specs.declared.phase.PassState.{PassState}
use Rattle.shfl_core.specs.Phases.{is_holding}
use Rattle.shfl_core.specs.Holding.{write_of, read_of}
use Rattle.shfl_core.proofs.Lists.{below-or}
use Rattle.shfl_core.specs.ShownLine.{holders}
use Rattle.shfl_laws.proofs.rows.Losing.{holds-split}

abbrev write_here : ℕ → ℕ × Mode → ℕ
write_here q x = cond ((x.0 == q) && is_write x.1) 1 0

abbrev read_here : ℕ → ℕ × Mode → ℕ
read_here q x = cond ((x.0 == q) && not (is_write x.1)) 1 0

write-push : (q : ℕ) (l : List (ℕ × Mode)) (x : ℕ × Mode) → write_of q (l ++ x ∷ []) ≡ write_of q l + write_here q x
write-push q [] x = omega arith
write-push q (y ∷ ys) x = let z = write-push q ys x in omega arith

read-push : (q : ℕ) (l : List (ℕ × Mode)) (x : ℕ × Mode) → read_of q (l ++ x ∷ []) ≡ read_of q l + read_here q x
read-push q [] x = omega arith
read-push q (y ∷ ys) x = let z = read-push q ys x in omega arith

append-none : (l : List (ℕ × Mode)) → l ++ [] ≡ l
append-none [] = refl
append-none (x ∷ xs) = ap (λ z. x ∷ z) (append-none xs)

module _ (pass : ℕ → PassState) where
  abbrev pub writes_at : ℕ → ℕ
  writes_at q = cond (is_holding (pass q).phase && is_write (pass q).reg.mode) 1 0

  abbrev pub reads_at : ℕ → ℕ
  reads_at q = cond (is_holding (pass q).phase && not (is_write (pass q).reg.mode)) 1 0

  abbrev Has : List (ℕ × Mode) → ℕ → ℕ → ℕ → Type 0
  Has l q w r = (write_of q l ≡ w) × (read_of q l ≡ r)

  abbrev entry : ℕ → ℕ × Mode
  entry p = (p, (pass p).reg.mode)

  -- whom the list of those below n has
  pub record Told (n : ℕ) : Type 0 where
    pub rises : (m : ℕ) → n ≤ m → Rises 0 m (holders pass n)
    pub above : (q : ℕ) → n ≤ q → Has (holders pass n) q 0 0
    pub below : (q : ℕ) → q < n → Has (holders pass n) q (writes_at q) (reads_at q)

  pub told : (n : ℕ) → Told n
  told zero = record { rises = λ m h. tt; above = λ q h. (refl, refl); below = λ q h. absurd (omega arith) }
  told (suc n) = by (told n) (is_holding (pass n).phase) refl
    where
      other : (q : ℕ) → n ≢ q → (write_here q (entry n) ≡ 0) × (read_here q (entry n) ≡ 0)
      other q d = let b : (n == q) ≡ false = grind (arith, nat_tests) in ((λ j. cond (b j && is_write (pass n).reg.mode) 1 0), (λ j. cond (b j && not (is_write (pass n).reg.mode)) 1 0))

      by : Told n → (b : Bool) → is_holding (pass n).phase ≡ b → Told (suc n)
      by t false e = let same : holders pass (suc n) ≡ holders pass n = ap (λ b. holders pass n ++ cond b (entry n ∷ []) []) e ∙ append-none (holders pass n) in record {
        rises = λ m h. subst (λ l. Rises 0 m l) (sym same) (t.rises m (omega arith));
        above = λ q h. subst (λ l. Has l q 0 0) (sym same) (t.above q (omega arith));
        below = λ q h. subst (λ l. Has l q (writes_at q) (reads_at q)) (sym same) (Chain.by_eq q n
            (λ i. (let a = t.above q (omega arith) in let f : is_holding (pass q).phase ≡ false = subst (λ z. is_holding (pass z).phase ≡ false) (sym i) e in
            (a.0 ∙ sym (λ j. cond (f j && is_write (pass q).reg.mode) 1 0), a.1 ∙ sym (λ j. cond (f j && not (is_write (pass q).reg.mode)) 1 0))))
            (λ i. t.below q (omega arith)));
      }
      by t true e = let same : holders pass (suc n) ≡ holders pass n ++ entry n ∷ [] = ap (λ b. holders pass n ++ cond b (entry n ∷ []) []) e in record {
        rises = λ m h. subst (λ l. Rises 0 m l) (sym same) (rises-push 0 m n (pass n).reg.mode (holders pass n) (omega arith) (omega arith) few (t.rises m (omega arith)));
        above = λ q h. subst (λ l. Has l q 0 0) (sym same) (let a = t.above q (omega arith) in let b = other q (omega arith) in let c = write-push q (holders pass n) (entry n) in let d = read-push q (holders pass n) (entry n) in (omega arith, omega arith));
        below = λ q h. subst (λ l. Has l q (writes_at q) (reads_at q)) (sym same) (Chain.by_eq n q
            (λ i. subst (λ z. Has (holders pass n ++ entry n ∷ []) z (writes_at z) (reads_at z)) i here)
            (λ i. (let a = t.below q (omega arith) in let b = other q i in let c = write-push q (holders pass n) (entry n) in let d = read-push q (holders pass n) (entry n) in (omega arith, omega arith))));
      }
        where
          few : (q : ℕ) → 0 < holds q (holders pass n) → q < n
          few q i = ⊎_elim (λ h. h) (λ h. absurd (let a = t.above q h in let b = holds-split q (holders pass n) in omega arith)) (below-or q n)

          here : Has (holders pass n ++ entry n ∷ []) n (writes_at n) (reads_at n)
          here = let a = t.above n (omega arith) in let s : (n == n) ≡ true = grind (arith, nat_tests) in let c = write-push n (holders pass n) (entry n) in let d = read-push n (holders pass n) (entry n) in
              let w : write_here n (entry n) ≡ writes_at n = (λ j. cond ((s ∙ sym e) j && is_write (pass n).reg.mode) 1 0) in
              let r : read_here n (entry n) ≡ reads_at n = (λ j. cond ((s ∙ sym e) j && not (is_write (pass n).reg.mode)) 1 0) in (omega arith, omega arith)
