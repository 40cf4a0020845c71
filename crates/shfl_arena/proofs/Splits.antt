-- The last seat splits off the next one.
use Rattle.std.proofs.Common.{◌≡◌, ℕ, zero, suc, ◌+◌, ◌<◌, ◌⊎◌, true, false, List, [], ◌∷◌, ◌++◌, length, set, length-set, length-append, sym, refl, ap, ◌∙◌, subst, inl, inr, ⊎_elim, arith}
use Rattle.std.specs.Prelude.{slice_get, Some}
use mathlib.Core.Option.{some, some-injective, some-ne-none}
use lib.ListN.{get_elem?}
use Rattle.atomic_table.specs.Table.{Splits}
use Rattle.atomic_table.proofs.Lists.{at_set}
use Rattle.shfl_core.specs.declared.phase.Rules.{Rules}
use Rattle.shfl_core.proofs.Lists.{set-again}
use Rattle.shfl_arena.specs.declared.shape.Shape.{Shape}
use Rattle.shfl_arena.specs.declared.view.SeatView.{SeatView}
use Rattle.shfl_arena.specs.declared.view.ThreadView.{ThreadView}
use Rattle.shfl_arena.specs.Threads.{new_thread, thread_at, pass_at}
use Rattle.shfl_arena.specs.ArenaRule.{ArenaRule}
use Rattle.shfl_arena.specs.SeatViews.{seats_of, threads_of, not_last, next_seat}
use Rattle.shfl_arena.specs.ValueMoves.{writes}
use Rattle.shfl_arena.specs.ArenaTable.{told_arena, SeatFacts, LawfulTable}
use Rattle.shfl_arena.proofs.Openings.{arena-thread-law, seat-more}
use Rattle.shfl_arena.proofs.ToldTerms.{told-long}
use Rattle.shfl_arena.proofs.SeatViews.{seats-more, seats-set, threads-set, threads-at, threads-long, threads-more}

at_end : {A : Type 0} (l : List A) (a b : A) (j : ℕ) → get_elem? (l ++ a ∷ []) j ≡ some b → ((j < length l) × (get_elem? l j ≡ some b)) ⊎ ((j ≡ length l) × (a ≡ b))
at_end [] a b zero e = inr (refl, some-injective a b e)
at_end [] a b (suc j) e = absurd (some-ne-none b (sym e))
at_end (x ∷ xs) a b zero e = inl (omega arith, e)
at_end (x ∷ xs) a b (suc j) e = ⊎_elim (λ p. inl (let h = p.0 in omega arith, p.1)) (λ p. inr (ap suc p.0, p.1)) (at_end xs a b j e)

pub splits : {V : Type 0} (shape : Shape) (rules : Rules) (n id : ℕ) (v : SeatView) → v.seats ≡ 1 → v.last ≡ true → v.number + 1 < n → Splits (LawfulTable {V = V} shape rules n) id v (not_last v) (next_seat v)
splits {V} shape rules n id v one last room s ok at = let vs : List SeatView = set s.views id (not_last v) in let w : SeatView = next_seat v in let threads : List ThreadView = threads_of s.views in
    let f = ok.seated id v at in let long : id + 1 ≡ length s.views = f.last last in let num : v.number ≡ id = f.number (omega arith) in
    let wide : length vs ≡ v.number + 1 = (let a = length-set s.views id (not_last v) in omega arith) in
    let longer : length (vs ++ w ∷ []) ≡ length s.views + 1 = (let a = length-set s.views id (not_last v) in omega (arith, length-append vs (w ∷ []))) in
    let same : threads_of vs ≡ threads = threads-set s.views id (not_last v) ∙ set-again threads id v.thread (threads-at s.views id v at) in
    let more : threads ++ new_thread ∷ [] ≡ threads_of (vs ++ w ∷ []) = ap (λ z. z ++ new_thread ∷ []) (sym same) ∙ sym (threads-more vs w) in record {
      arena = subst (λ (z : List ThreadView). ArenaRule (told_arena shape rules n s.words) s.words z) more
          (arena-thread-law (told_arena shape rules n s.words) s.words threads ok.arena (let a = threads-long s.views in let b = told-long shape rules n s.words in omega arith));
      seated = λ seat u e. ⊎_elim
          (λ p. ⊎_elim
          (λ q. subst (λ (z : ℕ × SeatView). SeatFacts (length (vs ++ w ∷ [])) z.0 z.1) (λ i. (sym q.0 i, q.1 i)) (record { number = λ _. num; last = λ no. absurd (cc); spent = λ none. absurd (let e : v.seats ≡ 0 = none in omega arith) }))
          (λ q. (let u' = ok.seated seat u q.1 in record { number = u'.number; last = λ h. absurd (q.0 (let a = u'.last h in let g : seat ≡ id = omega arith in g)); spent = u'.spent }))
          (at_set s.views id seat (not_last v) u p.1))
          (λ p. subst (λ (z : ℕ × SeatView). SeatFacts (length (vs ++ w ∷ [])) z.0 z.1) (λ i. (sym p.0 i, p.1 i)) (record { number = λ _. sym wide; last = λ _. omega (arith, length-append vs (w ∷ [])); spent = λ none. absurd (let e : 1 ≡ 0 = none in omega arith) }))
          (at_end vs w u seat e);
      counted = (let a : seats_of vs + v.seats ≡ seats_of s.views + v.seats = seats-set s.views id v (not_last v) at in let b : seats_of (vs ++ w ∷ []) ≡ seats_of vs + 1 = seats-more vs w in let c = ok.counted in omega arith);
      home = λ l h nobody. ok.home l h (λ r. ap (λ (z : ThreadView). writes (pass_at l r z)) (sym (seat-more threads r)) ∙ subst (λ (z : List ThreadView). writes (pass_at l r (thread_at z r)) ≡ false) (sym more) (nobody r));
    }

each-snoc : {A : Type 0} (f : ℕ → A) (l : List A) (i : ℕ) (x : A) → ((j : ℕ) → j < length l → slice_get l j ≡ Some (f j)) → x ≡ f (length l) → i < length (l ++ x ∷ []) → slice_get (l ++ x ∷ []) i ≡ Some (f i)
each-snoc f [] zero x was here h = ap Some here
each-snoc f [] (suc i) x was here h = absurd (omega arith)
each-snoc f (y ∷ ys) zero x was here h = was 0 (omega arith)
each-snoc f (y ∷ ys) (suc i) x was here h = each-snoc (λ j. f (suc j)) ys i x (λ j k. was (suc j) (omega arith)) here (omega arith)

-- what was told of each seat holds with one more
pub pushed : {A : Type 0} (f : ℕ → A) (k : ℕ) (x : A) (l l' : List A) → l' ≡ l ++ x ∷ [] → x ≡ f k → k ≡ length l → ((i : ℕ) → i < length l → slice_get l i ≡ Some (f i)) → (i : ℕ) → i < length l' → slice_get l' i ≡ Some (f i)
pushed f k x l l' is here at was i h = subst (λ z. slice_get z i ≡ Some (f i)) (sym is) (each-snoc f l i x was (here ∙ ap f at) (subst (λ z. i < length z) is h))
