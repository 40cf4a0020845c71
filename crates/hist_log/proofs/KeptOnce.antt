-- The merge has each write and each read once.
use Rattle.std.proofs.Common.{◌≡◌, ℕ, suc, ◌+◌, ◌≤◌, Bool, true, false, cond, eqb, leb, List, [], ◌∷◌, ◌++◌, map, length, sym, refl, ap, ◌∙◌, subst, inl, inr, arith, append_assoc}
use Rattle.std.specs.List.{filter, flat_map, All}
use Rattle.std.specs.List.Sorted.{IsPermutation}
use Rattle.std.proofs.lemmas.Bool.{cases_eq, cases_lt}
use Rattle.std.proofs.lemmas.Bool.Decides.{nat_tests}
use Rattle.std.proofs.lemmas.List.Elements.{All-head, All-tail}
use Rattle.std.proofs.lemmas.List.Sorted.{IsPermutation-refl, IsPermutation-sym, IsPermutation-cons, IsPermutation-trans, IsPermutation-append, IsPermutation-append_left, IsPermutation-append_right, IsPermutation-append_comm, IsPermutation-middle}
use Rattle.hist_log.specs.Merge.{reads_at, merged_from, merged, AreWithin}

-- two lists in each of two parts, put together the other way
regrouped : {E : Type 0} (a b c d : List E) → IsPermutation ((a ++ b) ++ (c ++ d)) ((a ++ c) ++ (b ++ d))
regrouped a b c d =
    let middle = IsPermutation-append_right a (b ++ (c ++ d)) (c ++ (b ++ d))
    (subst (λ l. IsPermutation l (c ++ (b ++ d))) (append_assoc b c d)
    (subst (λ l. IsPermutation ((b ++ c) ++ d) l) (append_assoc c b d)
    (IsPermutation-append_left d (b ++ c) (c ++ b) (IsPermutation-append_comm b c)))) in
    subst (λ l. IsPermutation l ((a ++ c) ++ (b ++ d))) (sym (append_assoc a b (c ++ d)))
    (subst (λ l. IsPermutation (a ++ (b ++ (c ++ d))) l) (sym (append_assoc a c (b ++ d))) middle)

module _ {E : Type 0} (receipt : E → ℕ) where
  -- the reads of a list from the point on
  abbrev from_point : ℕ → List E → List E
  from_point point = filter (λ e. leb point (receipt e))

  abbrev of_point : ℕ → List E → List E
  of_point point = filter (λ e. eqb (receipt e) point)

  -- the three tests of a read, and what the parts then are
  Parts : E → List E → List E → List E → Bool → Bool → Bool → Type 0
  Parts e from at behind a b c = IsPermutation (cond a (e ∷ from) from) (cond b (e ∷ at) at ++ cond c (e ∷ behind) behind)

  parts_step : (e : E) (from at behind : List E) (point : ℕ) → IsPermutation from (at ++ behind) → Parts e from at behind (leb point (receipt e)) (eqb (receipt e) point) (leb (point + 1) (receipt e))
  unfolding Parts
  parts_step e from at behind point rest =
      let P = Parts e from at behind in
      let r = receipt e in
      elim (cases_eq r point) [
        | inl same ↦
            let first : leb point r ≡ true = grind (arith, nat_tests) in
            let second : eqb r point ≡ true = grind (arith, nat_tests) in
            let third : leb (point + 1) r ≡ false = grind (arith, nat_tests) in
            subst (λ a. P a (eqb r point) (leb (point + 1) r)) (sym first) (subst (λ b. P true b (leb (point + 1) r)) (sym second) (subst (λ c. P true true c) (sym third)
            (IsPermutation-cons e from (at ++ behind) rest)))
        | inr other ↦ elim (cases_lt r point) [
          | inl below ↦
              let first : leb point r ≡ false = grind (arith, nat_tests) in
              let second : eqb r point ≡ false = grind (arith, nat_tests) in
              let third : leb (point + 1) r ≡ false = grind (arith, nat_tests) in
              subst (λ a. P a (eqb r point) (leb (point + 1) r)) (sym first) (subst (λ b. P false b (leb (point + 1) r)) (sym second) (subst (λ c. P false false c) (sym third) rest))
          | inr above ↦
              let first : leb point r ≡ true = grind (arith, nat_tests) in
              let second : eqb r point ≡ false = grind (arith, nat_tests) in
              let third : leb (point + 1) r ≡ true = grind (arith, nat_tests) in
              subst (λ a. P a (eqb r point) (leb (point + 1) r)) (sym first) (subst (λ b. P true b (leb (point + 1) r)) (sym second) (subst (λ c. P true false c) (sym third)
              (IsPermutation-trans (e ∷ from) (e ∷ (at ++ behind)) (at ++ e ∷ behind) (IsPermutation-cons e from (at ++ behind) rest)
              (IsPermutation-sym (at ++ e ∷ behind) (e ∷ (at ++ behind)) (IsPermutation-middle at e behind)))))
        ]
      ]

  -- those of the point, and those behind it
  list_parts : (point : ℕ) (l : List E) → IsPermutation (from_point point l) (of_point point l ++ from_point (point + 1) l)
  unfolding Parts
  list_parts point [] = IsPermutation-refl []
  list_parts point (e ∷ l) = parts_step e (from_point point l) (of_point point l) (from_point (point + 1) l) point (list_parts point l)

  all_parts : (point : ℕ) (reads : List (List E)) → IsPermutation (flat_map (from_point point) reads) (reads_at receipt reads point ++ flat_map (from_point (point + 1)) reads)
  all_parts point [] = IsPermutation-refl []
  all_parts point (l ∷ ls) =
      let at = of_point point l in
      let behind = from_point (point + 1) l in
      let rest = flat_map (from_point point) ls in
      IsPermutation-trans (from_point point l ++ rest) ((at ++ behind) ++ (reads_at receipt ls point ++ flat_map (from_point (point + 1)) ls)) _
      (IsPermutation-append (from_point point l) (at ++ behind) rest _ (list_parts point l) (all_parts point ls))
      (regrouped at behind (reads_at receipt ls point) (flat_map (from_point (point + 1)) ls))

  -- where no read is behind the point, those from it on are those of it
  none_behind : (point : ℕ) (l : List E) → All (λ e. receipt e ≤ point) l → from_point point l ≡ of_point point l
  none_behind point [] within = refl
  none_behind point (e ∷ l) within =
      let rest = none_behind point l (All-tail (λ x. receipt x ≤ point) e l within) in
      let here = All-head (λ x. receipt x ≤ point) e l within in
      let same : leb point (receipt e) ≡ eqb (receipt e) point = grind (arith, nat_tests) in
      ap (λ b. cond b (e ∷ from_point point l) (from_point point l)) same ∙ ap (λ xs. cond (eqb (receipt e) point) (e ∷ xs) xs) rest

  none_behind_all : (point : ℕ) (reads : List (List E)) → All (All (λ e. receipt e ≤ point)) reads → flat_map (from_point point) reads ≡ reads_at receipt reads point
  none_behind_all point [] within = refl
  none_behind_all point (l ∷ ls) within =
      let P = All (λ e. receipt e ≤ point) in
      let here = none_behind point l (All-head P l ls within) in
      let rest = none_behind_all point ls (All-tail P l ls within) in
      ap (λ xs. xs ++ flat_map (from_point point) ls) here ∙ ap (λ xs. of_point point l ++ xs) rest

  kept_from : (reads : List (List E)) (point : ℕ) (writes : List E) → All (All (λ e. receipt e ≤ point + length writes)) reads
      → IsPermutation (writes ++ flat_map (from_point point) reads) (merged_from receipt reads point writes)
  kept_from reads point [] within =
      let P = λ (n : ℕ). All (All (λ e. receipt e ≤ n)) reads in
      subst (λ l. IsPermutation l (reads_at receipt reads point)) (sym (none_behind_all point reads (subst P {x = point + 0} (omega arith) within))) (IsPermutation-refl (reads_at receipt reads point))
  kept_from reads point (w ∷ ws) within =
      let P = λ (n : ℕ). All (All (λ e. receipt e ≤ n)) reads in
      let at = reads_at receipt reads point in
      let from = flat_map (from_point point) reads in
      let behind = flat_map (from_point (suc point)) reads in
      let later = merged_from receipt reads (suc point) ws in
      let rest = kept_from reads (suc point) ws (subst P {x = point + suc (length ws)} (omega arith) within) in
      let parts = subst (λ n. IsPermutation from (at ++ flat_map (from_point n) reads)) {x = point + 1} (omega arith) (all_parts point reads) in
      let apart : IsPermutation (ws ++ (at ++ behind)) (at ++ (ws ++ behind)) =
      subst (λ l. IsPermutation l (at ++ (ws ++ behind))) (append_assoc ws at behind)
      (subst (λ l. IsPermutation ((ws ++ at) ++ behind) l) (append_assoc at ws behind)
      (IsPermutation-append_left behind (ws ++ at) (at ++ ws) (IsPermutation-append_comm ws at))) in
      let one : IsPermutation (ws ++ from) (at ++ later) =
      IsPermutation-trans (ws ++ from) (ws ++ (at ++ behind)) (at ++ later) (IsPermutation-append_right ws from (at ++ behind) parts)
      (IsPermutation-trans (ws ++ (at ++ behind)) (at ++ (ws ++ behind)) (at ++ later) apart (IsPermutation-append_right at (ws ++ behind) later rest)) in
      IsPermutation-trans (w ∷ (ws ++ from)) (w ∷ (at ++ later)) (at ++ w ∷ later) (IsPermutation-cons w (ws ++ from) (at ++ later) one)
      (IsPermutation-sym (at ++ w ∷ later) (w ∷ (at ++ later)) (IsPermutation-middle at w later))

  -- each read is of the first point or of a later one
  from_first : (l : List E) → from_point 0 l ≡ l
  from_first [] = refl
  from_first (e ∷ l) =
      let passes : leb 0 (receipt e) ≡ true = grind (arith, nat_tests) in
      ap (λ b. cond b (e ∷ from_point 0 l) (from_point 0 l)) passes ∙ ap (λ xs. e ∷ xs) (from_first l)

  all_from_first : {V : Type 0} (items : V → List E) (reads : List V) → flat_map (from_point 0) (map items reads) ≡ flat_map items reads
  all_from_first items [] = refl
  all_from_first items (v ∷ vs) =
      ap (λ l. l ++ flat_map (from_point 0) (map items vs)) (from_first (items v)) ∙ ap (λ l. items v ++ l) (all_from_first items vs)

  -- the merge has the writes and the reads, each once
  pub kept_once : {V : Type 0} (items : V → List E) (writes : List E) (reads : List V) → AreWithin receipt writes (map items reads)
      → IsPermutation (writes ++ flat_map items reads) (merged receipt writes (map items reads))
  kept_once items writes reads within =
      let P = λ (n : ℕ). All (All (λ e. receipt e ≤ n)) (map items reads) in
      subst (λ l. IsPermutation (writes ++ l) (merged receipt writes (map items reads))) (all_from_first items reads)
      (kept_from (map items reads) 0 writes (subst P {x = length writes} (omega arith) within))
