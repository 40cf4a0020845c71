-- The lists of reads, taken one after another at one point.
use Rattle.std.proofs.Common.{◌≡◌, ◌≢◌, ℕ, suc, ◌+◌, ◌<◌, ◌≤◌, List, [], ◌∷◌, ◌++◌, eqb, take, drop, length, get_or, set, sym, ap, ◌∙◌, subst, inl, inr, arith, append_assoc}
use Rattle.std.specs.List.{filter}
use Rattle.std.proofs.lemmas.Bool.{cases_eq}
use Rattle.std.proofs.lemmas.List.{get_or-set_same, get_or-set_other, take_more, flat_map_more}
use Rattle.std.proofs.Math.ListN.{length-set}
use Rattle.std.proofs.Math.Seq.{drop-cons, drop-length}
use Rattle.hist_log.specs.Merge.{reads_at, merged_from, merged, StartsAt}

module _ {E : Type 0} (receipt : E → ℕ) (point : ℕ) (lists : List (List E)) where
  -- the first k lists have given their reads of the point and start at the next one, and the others start at the point
  pub record TakenTo (before now : List E) (starts : List ℕ) (k : ℕ) : Type 0 where
    pub as_many : length starts ≡ length lists
    pub taken : now ≡ before ++ reads_at receipt (take k lists) point
    pub done : (j : ℕ) → j < k → StartsAt receipt (point + 1) (get_or lists j []) (get_or starts j 0)
    pub left : (j : ℕ) → k ≤ j → j < length lists → StartsAt receipt point (get_or lists j []) (get_or starts j 0)

  pub TakenTo-more : (before now now' : List E) (starts : List ℕ) (k end : ℕ) → TakenTo before now starts k → k < length lists
      → now' ≡ now ++ filter (λ e. eqb (receipt e) point) (get_or lists k []) → StartsAt receipt (point + 1) (get_or lists k []) end
      → TakenTo before now' (set starts k end) (k + 1)
  TakenTo-more before now now' starts k end before_k in_range added next = record {
    as_many = length-set starts k end ∙ before_k.as_many;
    taken = added ∙ ap (λ xs. xs ++ filter (λ e. eqb (receipt e) point) (get_or lists k [])) before_k.taken
        ∙ flat_map_more (filter (λ e. eqb (receipt e) point)) before (take k lists) (get_or lists k [])
        ∙ ap (λ ls. before ++ reads_at receipt ls point) (sym (take_more lists k [] in_range));
    done = λ j below. elim (cases_eq j k) [
      | inl same ↦
          let here : get_or (set starts k end) j 0 ≡ end = ap (λ i. get_or (set starts k end) i 0) same ∙ get_or-set_same starts k end 0 (omega (arith, before_k.as_many)) in
          subst (λ s. StartsAt receipt (point + 1) (get_or lists j []) s) (sym here) (subst (λ i. StartsAt receipt (point + 1) (get_or lists i []) end) (sym same) next)
      | inr other ↦ subst (λ s. StartsAt receipt (point + 1) (get_or lists j []) s) (sym (get_or-set_other starts k j end 0 other)) (before_k.done j (omega arith))
    ];
    left = λ j from below.
        let other : j ≢ k = omega arith in
        subst (λ s. StartsAt receipt point (get_or lists j []) s) (sym (get_or-set_other starts k j end 0 other)) (before_k.left j (omega arith) below);
  }

module _ {E : Type 0} (receipt : E → ℕ) (lists : List (List E)) (writes : List E) where
  -- after the reads of a point comes the write there
  pub point_merged : (now next after : List E) (point : ℕ) (write : E) → point < length writes → write ≡ get_or writes point write
      → next ≡ now ++ reads_at receipt lists point → after ≡ next ++ write ∷ []
      → now ++ merged_from receipt lists point (drop point writes) ≡ merged receipt writes lists
      → after ++ merged_from receipt lists (point + 1) (drop (point + 1) writes) ≡ merged receipt writes lists
  point_merged now next after point write in_range is reads_in write_in told =
      let later = λ (n : ℕ). merged_from receipt lists n (drop n writes) in
      let here : drop point writes ≡ write ∷ drop (suc point) writes = drop-cons writes point write in_range ∙ ap (λ w. w ∷ drop (suc point) writes) (sym is) in
      let at = reads_at receipt lists point in
      let n : point + 1 ≡ suc point = omega arith in
      ap (λ xs. xs ++ later (point + 1)) write_in
      ∙ ap (λ m. (next ++ write ∷ []) ++ later m) n
      ∙ append_assoc next (write ∷ []) (later (suc point))
      ∙ ap (λ xs. xs ++ write ∷ later (suc point)) reads_in
      ∙ append_assoc now at (write ∷ later (suc point))
      ∙ ap (λ ws. now ++ merged_from receipt lists point ws) (sym here)
      ∙ told

  -- behind the last write come the reads of the last point
  pub all_merged : (now last : List E) (point : ℕ) → point ≡ length writes → last ≡ now ++ reads_at receipt lists (length writes)
      → now ++ merged_from receipt lists point (drop point writes) ≡ merged receipt writes lists → last ≡ merged receipt writes lists
  all_merged now last point end reads_in told =
      let empty : drop point writes ≡ [] = ap (λ n. drop n writes) end ∙ drop-length writes in
      reads_in ∙ ap (λ n. now ++ reads_at receipt lists n) (sym end) ∙ ap (λ ws. now ++ merged_from receipt lists point ws) (sym empty) ∙ told
