use Rattle.std.proofs.Common.{rules, arith, ◌≡◌, ℕ, ◌+◌, sym, refl, ap, ◌∙◌, subst, map, drop, List, [], ◌∷◌, ◌++◌, append_assoc, Option, Some, get_or, set, get_or-set_other, Bool, false, zero, suc, ◌<◌}
use mathlib.Core.Option.{some, some-injective}
use mathlib.Core.Logic.{dite}
use native.Mathlib.Decide.{ℕ_discrete}
use lib.ListN.{get_elem?}
use Rattle.std.proofs.lemmas.List.{map-append}
use Rattle.std.specs.Mem.Slots.{slots_items}
use Rattle.std.specs.Mem.Slots.Ownership.{Filled}
use Rattle.atomic_table.proofs.Lists.{drop_at}
use Rattle.shfl_arena.proofs.closing.drained.Goals as goal

one_more : (k : ℕ) → suc k ≡ k + 1
one_more k = omega arith

emptied : (f : List Bool) (k : ℕ) → get_or (set f k false) k false ≡ false
emptied [] k = refl
emptied (x ∷ xs) zero = refl
emptied (x ∷ xs) (suc k) = emptied xs k

later_full : (f h : List Bool) (k n m : ℕ) → Filled f k n → h ≡ set f k false → m ≡ n → Filled h (k + 1) m
later_full f h k n m full is same j l u = ap (λ z. get_or z j false) is ∙ (get_or-set_other f k j false false (λ e. omega arith) ∙ full j (omega arith) (omega arith))

more_empty : (f h : List Bool) (k : ℕ) → ((j : ℕ) → j < k → get_or f j false ≡ false) → h ≡ set f k false → (j : ℕ) → j < k + 1 → get_or h j false ≡ false
more_empty f h k old is j l = ap (λ z. get_or z j false) is ∙ dite (ℕ_discrete j k)
    (λ e. subst (λ (i : ℕ). get_or (set f k false) i false ≡ false) (sym e) (emptied f k))
    (λ ne. get_or-set_other f k j false false ne ∙ old j (omega arith))

pub unreachable-requires : goal.unreachable-requires
unreachable-requires g c = let i = c.loop-k.invariant in let a = c.requires.all c.loop-k.k c.loop-k-test.true in
    c.in_default.not-Some a.0 (some-injective c.take.result (Some a.0) (sym c.take.ensures.value ∙ (ap (λ l. get_elem? l c.loop-k.k) i.3 ∙ a.1)))

pub loop-k-preserved : goal.loop-k-preserved
loop-k-preserved g c = let i = c.loop-k.invariant in let k : ℕ = c.loop-k.k in let old = slots_items c.args.closed.slots in let v = c.in-Some.value in let o = c.take.ensures.others in
    let at : get_elem? old k ≡ some (Some v) = sym (ap (λ l. get_elem? l k) i.3) ∙ (c.take.ensures.value ∙ ap some c.in-Some.is) in
    let next : map Some c.push_reserved.new.self.items ++ drop (k + 1) old ≡ old = (λ j. map Some (c.push_reserved.ensures.items j) ++ drop (sym (one_more k) j) old) ∙ (ap (λ (l : List (Option g.row.V.Denot)). l ++ drop (suc k) old) (map-append Some c.loop-k.room.items (v ∷ []))
    ∙ (append_assoc (map Some c.loop-k.room.items) (Some v ∷ []) (drop (suc k) old) ∙ (ap (λ (l : List (Option g.row.V.Denot)). map Some c.loop-k.room.items ++ l) (sym (drop_at old k (Some v) at)) ∙ i.5))) in (
      later_full _ _ _ _ _ i.0 o.1 o.2,
      more_empty _ _ _ i.1 o.1,
      o.2 ∙ i.2,
      o.0 ∙ i.3,
      search rules,
      next,
      search rules,
      search rules,
    )
