-- The views of the seats, and the passes that they show, where one of them changes.
use Rattle.std.proofs.Common.{◌≡◌, ◌≢◌, ℕ, zero, suc, ◌+◌, ◌<◌, ◌⊎◌, true, false, cond, List, [], ◌∷◌, ◌++◌, length, map, set, get_or-set_same, get_or-set_other, Option, Some, None, sym, refl, ap, ◌∙◌, subst, inl, inr, ⊎_elim, arith, length-set}
use mathlib.Core.Logic.{dite}
use native.Mathlib.Decide.{ℕ_discrete}
use mathlib.Core.Option.{some, some-injective, some-ne-none}
use lib.ListN.{get_elem?}
use Rattle.atomic_table.proofs.Lists.{at_longer, at_set, set_else}
use Rattle.shfl_line.specs.declared.events.Mode.{Mode}
use Rattle.shfl_line.specs.declared.events.Mode.TheVariants.{Write, Read}
use Rattle.shfl_core.specs.declared.phase.PassState.{PassState}
use Rattle.shfl_core.specs.Waiting.{idle}
use Rattle.shfl_core.specs.Worlds.{known}
use Rattle.shfl_core.proofs.Lists.{seen-at}
use Rattle.shfl_table.proofs.Places.{there, values_numbered}
use Rattle.shfl_laws.specs.Holds.{hold_of}
use Rattle.shfl_table.specs.Places.{numbered, values_of}
use Rattle.shfl_table.specs.Histories.{HasSeen}
use Rattle.shfl_table.specs.declared.kept.Action.{Action}
use Rattle.shfl_table.specs.declared.view.View.{View}
use Rattle.shfl_table.specs.Views.{IsAmong, IsSpent, pass_at, passes_from}
use Rattle.shfl_table.specs.BoardRule.{SeatFacts}

-- the passes of the seats
pub passes-set : (i : ℕ) (vs : List View) (k : ℕ) (w : View) → passes_from i (set vs k w) ≡ set (passes_from i vs) k (pass_at (i + k) w)
passes-set i [] k w = refl
passes-set i (x ∷ xs) zero w = ap (λ n. pass_at n w ∷ passes_from (suc i) xs) (let e : i ≡ i + 0 = omega arith in e)
passes-set i (x ∷ xs) (suc k) w = ap (λ l. pass_at i x ∷ l) (passes-set (suc i) xs k w ∙ ap (λ n. set (passes_from (suc i) xs) k (pass_at n w)) (let e : suc i + k ≡ i + suc k = omega arith in e))

pub passes-at : (i : ℕ) (vs : List View) (k : ℕ) (v : View) → get_elem? vs k ≡ some v → get_elem? (passes_from i vs) k ≡ some (pass_at (i + k) v)
passes-at i [] k v e = absurd (some-ne-none v (sym e))
passes-at i (x ∷ xs) zero v e = ap (λ (u : View). some (pass_at i u)) (some-injective x v e) ∙ ap (λ n. some (pass_at n v)) (let e : i ≡ i + 0 = omega arith in e)
passes-at i (x ∷ xs) (suc k) v e = passes-at (suc i) xs k v e ∙ ap (λ n. some (pass_at n v)) (let e : suc i + k ≡ i + suc k = omega arith in e)

pub live-pass : (i : ℕ) (v : View) → v.live ≡ true → pass_at i v ≡ v.pass
live-pass i v e = ap (λ b. cond b v.pass (idle i)) e

pub pass-there : (vs : List View) (k : ℕ) (v : View) → get_elem? vs k ≡ some v → v.live ≡ true → get_elem? (passes_from 0 vs) k ≡ some v.pass
pass-there vs k v at live = passes-at 0 vs k v at ∙ ap some (live-pass (0 + k) v live)

-- a spent view stays spent where a live one changes
pub dead_stays : (vs : List View) (id : ℕ) (v w : View) → get_elem? vs id ≡ some v → v.live ≡ true → (k : ℕ) → IsSpent vs k → IsSpent (set vs id w) k
dead_stays vs id v w at live k d = dite (ℕ_discrete k id)
    (λ e. let same : v ≡ d.0 = some-injective v d.0 (sym at ∙ (sym (ap (get_elem? vs) e) ∙ d.1)) in absurd (let x : v.live ≡ false = ap (λ (u : View). u.live) same ∙ d.2 in cc))
    (λ ne. (d.0, set_else vs id k w ne ∙ d.1, d.2))

pub not_dead : (vs : List View) (id : ℕ) (v : View) → get_elem? vs id ≡ some v → v.live ≡ true → (k : ℕ) → IsSpent vs k → k ≢ id
not_dead vs id v at live k d e = let same : v ≡ d.0 = some-injective v d.0 (sym at ∙ (sym (ap (get_elem? vs) e) ∙ d.1)) in absurd (let x : v.live ≡ false = ap (λ (u : View). u.live) same ∙ d.2 in cc)

-- what stands in a list that is one longer
pub at_end : {A : Type 0} (l : List A) (a b : A) (j : ℕ) → get_elem? (l ++ a ∷ []) j ≡ some b → ((j < length l) × (get_elem? l j ≡ some b)) ⊎ ((j ≡ length l) × (a ≡ b))
at_end [] a b zero e = inr (refl, some-injective a b e)
at_end [] a b (suc j) e = absurd (some-ne-none b (sym e))
at_end (x ∷ xs) a b zero e = inl (omega arith, e)
at_end (x ∷ xs) a b (suc j) e = ⊎_elim (λ p. inl (let h = p.0 in omega arith, p.1)) (λ p. inr (ap suc p.0, p.1)) (at_end xs a b j e)

pub dead_longer : (vs : List View) (x : View) (k : ℕ) → IsSpent vs k → IsSpent (vs ++ x ∷ []) k
dead_longer vs x k d = (d.0, at_longer vs (x ∷ []) k d.0 d.1, d.2)

-- one live view changes, and perhaps the whole history
pub seated_after : (r : List ℕ) (id : ℕ) (vs : List View) (v w : View) (total total' : List Action) → get_elem? vs id ≡ some v → v.live ≡ true → ((seat : ℕ) (u : View) → get_elem? vs seat ≡ some u → SeatFacts r total vs seat u)
    → w.live ≡ true → w.last ≡ v.last → w.initial_state ≡ v.initial_state → w.back ≡ v.back
    → ((k : ℕ) (t : List Action) → k ≢ id → HasSeen total k t → HasSeen total' k t)
    → HasSeen total' id w.history → (hold_of w.pass ≢ None → w.history ≡ total')
    → ((seat : ℕ) (u : View) → seat ≢ id → get_elem? vs seat ≡ some u → u.live ≡ true → hold_of u.pass ≢ None → u.history ≡ total → u.history ≡ total')
    → (seat : ℕ) (u : View) → get_elem? (set vs id w) seat ≡ some u → SeatFacts r total' (set vs id w) seat u
seated_after r id vs v w total total' at live old live' last initial_state back more mine mine_held theirs seat u e = ⊎_elim
    (λ p. subst (λ (z : ℕ × View). SeatFacts r total' (set vs id w) z.0 z.1) (λ i. (sym p.0 i, p.1 i)) (let o = old id v at in record {
      last = λ _ is. o.last live (sym last ∙ is) ∙ sym (length-set vs id w);
      root_is = λ _. initial_state ∙ o.root_is live;
      knew = λ _. mine;
      holder = λ _. mine_held;
      back = λ g h. let b = o.back g (subst (IsAmong g) back h) in (dead_stays vs id v w at live g.number b.0, more g.number g.history (not_dead vs id v at live g.number b.0) b.1);
    }))
    (λ p. let o = old seat u p.1 in record {
      last = λ l z. o.last l z ∙ sym (length-set vs id w);
      root_is = o.root_is;
      knew = λ l. more seat u.history p.0 (o.knew l);
      holder = λ l h. theirs seat u p.0 p.1 l h (o.holder l h);
      back = λ g h. let b = o.back g h in (dead_stays vs id v w at live g.number b.0, more g.number g.history (not_dead vs id v at live g.number b.0) b.1);
    })
    (at_set vs id seat w u e)

unsome : {X : Type 0} → List (Option X) → List X
unsome [] = []
unsome (y ∷ ys) = elim y [ Some x ↦ x ∷ unsome ys | None ↦ unsome ys ]

unsome-map : {X : Type 0} (xs : List X) → unsome (map Some xs) ≡ xs
unfolding unsome
unsome-map [] = refl
unsome-map {X} (x ∷ xs) = ap (λ (l : List X). x ∷ l) (unsome-map xs)

same_somes : {X : Type 0} (xs ys : List X) → map Some xs ≡ map Some ys → xs ≡ ys
same_somes xs ys e = sym (unsome-map xs) ∙ (ap unsome e ∙ unsome-map ys)

pub same_carried : {X : Type 0} (i j : ℕ) (xs ys : List X) (c : List (ℕ × Option X)) → c ≡ numbered i (map Some xs) → c ≡ numbered j (map Some ys) → xs ≡ ys
same_carried i j xs ys c one two = same_somes xs ys (sym (values_numbered i (map Some xs)) ∙ (ap values_of (sym one ∙ two) ∙ values_numbered j (map Some ys)))

pub none-some : (h : Option Mode) (m : Mode) → h ≡ None → h ≡ Some m → ⊥
none-some h m a b = let e : None ≡ Some m = sym a ∙ b in cc

pub write-read : (h : Option Mode) → h ≡ Some Write → h ≡ Some Read → ⊥
write-read h a b = let e : Some Write ≡ Some Read = sym a ∙ b in cc

-- the holds of a list of passes, once one place was written
module _ (P : List PassState) (id : ℕ) (q q' : PassState) (at : get_elem? P id ≡ some q) where
  pub hold-here : hold_of (known (set P id q') id) ≡ hold_of q'
  hold-here = ap hold_of (get_or-set_same P id q' (idle id) (there P id q at))

  pub hold-was : hold_of (known P id) ≡ hold_of q
  hold-was = ap hold_of (seen-at P id q (idle id) at).0

  pub hold-else : (k : ℕ) → k ≢ id → hold_of (known (set P id q') k) ≡ hold_of (known P k)
  hold-else k ne = ap hold_of (get_or-set_other P id k q' (idle k) ne)

  pub hold-same : hold_of q ≡ hold_of q' → (k : ℕ) → hold_of (known (set P id q') k) ≡ hold_of (known P k)
  hold-same e k = dite (ℕ_discrete k id)
      (λ is. subst (λ z. hold_of (known (set P id q') z) ≡ hold_of (known P z)) (sym is) (hold-here ∙ (sym e ∙ sym hold-was)))
      (λ ne. hold-else k ne)
