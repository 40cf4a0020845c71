-- Blocks in slots of their own: what an edit of one slot, or of the order, leaves.
use Rattle.std.proofs.Common.{◌≡◌, ◌≢◌, ℕ, zero, suc, ◌+◌, ◌<◌, ◌≤◌, List, [], ◌∷◌, ◌++◌, set, length, get_or, sym, refl, ap, ◌∙◌, subst, arith}
use Rattle.std.specs.List.{All, AllPairs, insert, remove}
use Rattle.std.proofs.lemmas.List.{length-append, append_assoc, get_or_append_left, get_or-append-add, get_or-set_same, get_or-set_other, get_or-map, get_or_default, length-map}
use Rattle.std.proofs.lemmas.List.Edits.{length-insert, length-remove, insert-append_left, remove-append_left}
use Rattle.std.proofs.lemmas.List.Elements.{All-cons, All-head, All-tail, All-get_or, All-push}
use Rattle.std.proofs.lemmas.List.Kept.{AllPairs-cons}
use Rattle.std.proofs.lemmas.List.Quantifiers.{all_pairs_push, all_pairs_remove}
use Rattle.dir_table.specs.declared.calls.DirRow.{DirRow}
use Rattle.dir_table.specs.Blocks.{Blocks, block_at}
use Rattle.dir_table.specs.Slots.{blocks_in, AreApart}
use Rattle.dir_table.proofs.ListEdits.{All-insert, All-remove, map-insert}

abbrev Differ : ℕ → ℕ → Type 0
Differ slot other = slot ≢ other

pairs-tail : (slot : ℕ) (order : List ℕ) → AllPairs Differ (slot ∷ order) → AllPairs Differ order
pairs-tail slot order distinct i j d below in_range = distinct (suc i) (suc j) d (omega arith) (omega arith)

pairs-head : (slot : ℕ) (order : List ℕ) → AllPairs Differ (slot ∷ order) → All (Differ slot) order
pairs-head slot order distinct i d in_range = distinct 0 (suc i) d (omega arith) (omega arith)

pairs-insert : (order : List ℕ) (k slot : ℕ) → AllPairs Differ order → All (Differ slot) order → AllPairs Differ (insert order k slot)
pairs-insert [] zero slot distinct new = AllPairs-cons Differ slot [] new distinct
pairs-insert [] (suc k) slot distinct new = AllPairs-cons Differ slot [] new distinct
pairs-insert (s ∷ order) zero slot distinct new = AllPairs-cons Differ slot (s ∷ order) new distinct
pairs-insert (s ∷ order) (suc k) slot distinct new =
    AllPairs-cons Differ s (insert order k slot)
    (All-insert (Differ s) order k slot (λ same. All-head (Differ slot) s order new (sym same)) (pairs-head s order distinct))
    (pairs-insert order k slot (pairs-tail s order distinct) (All-tail (Differ slot) s order new))

-- blocks in other slots stay
pub others_stay : (slots : Blocks) (order : List ℕ) (slot : ℕ) (rows : List DirRow) → All (Differ slot) order → blocks_in (set slots slot rows) order ≡ blocks_in slots order
others_stay slots [] slot rows others = refl
others_stay slots (s ∷ order) slot rows others =
    let here : block_at (set slots slot rows) s ≡ block_at slots s = get_or-set_other slots slot s rows [] (λ same. All-head (Differ slot) s order others (sym same)) in
    (λ i. here i ∷ others_stay slots order slot rows (All-tail (Differ slot) s order others) i)

-- the block of the place k has other rows
pub changed_there : (slots : Blocks) (order : List ℕ) (k : ℕ) (d : ℕ) (rows : List DirRow) → AllPairs Differ order → All (λ s. s < length slots) order → k < length order
    → blocks_in (set slots (get_or order k d) rows) order ≡ set (blocks_in slots order) k rows
changed_there slots [] k d rows distinct known in_range = absurd (omega arith)
changed_there slots (s ∷ order) zero d rows distinct known in_range =
    let here : block_at (set slots s rows) s ≡ rows = get_or-set_same slots s rows [] (All-head (λ t. t < length slots) s order known) in
    (λ i. here i ∷ others_stay slots order s rows (pairs-head s order distinct) i)
changed_there slots (s ∷ order) (suc k) d rows distinct known in_range =
    let slot = get_or order k d in
    let here : block_at (set slots slot rows) s ≡ block_at slots s =
    get_or-set_other slots slot s rows [] (All-get_or (Differ s) order k d (omega arith) (pairs-head s order distinct)) in
    (λ i. here i ∷ changed_there slots order k d rows (pairs-tail s order distinct) (All-tail (λ t. t < length slots) s order known) (omega arith) i)

-- one more slot
pub slots_more : (slots : Blocks) (order : List ℕ) (rows : List DirRow) → All (λ s. s < length slots) order → blocks_in (slots ++ rows ∷ []) order ≡ blocks_in slots order
slots_more slots [] rows known = refl
slots_more slots (s ∷ order) rows known =
    let here : block_at (slots ++ rows ∷ []) s ≡ block_at slots s = get_or_append_left slots (rows ∷ []) [] s (All-head (λ t. t < length slots) s order known) in
    (λ i. here i ∷ slots_more slots order rows (All-tail (λ t. t < length slots) s order known) i)

-- what holds of a list holds of its first part
pub All-first : (P : ℕ → Type 0) (order free : List ℕ) → All P (order ++ free) → All P order
All-first P order free all i d in_range = subst P (get_or_append_left order free d i in_range) (all i d (omega (arith, length-append order free)))

pub pairs-first : (order free : List ℕ) → AllPairs Differ (order ++ free) → AllPairs Differ order
pairs-first order free distinct i j d below in_range =
    subst (λ s. Differ s (get_or order j d)) (get_or_append_left order free d i (omega arith))
    (subst (Differ (get_or (order ++ free) i d)) (get_or_append_left order free d j in_range)
    (distinct i j d below (omega (arith, length-append order free))))

-- the last element of a list, which no other one equals
pairs-last : (order : List ℕ) (slot : ℕ) → AllPairs Differ (order ++ slot ∷ []) → All (Differ slot) order
pairs-last order slot distinct i d in_range same =
    distinct i (length order + 0) d (omega arith) (omega (arith, length-append order (slot ∷ [])))
    (get_or_append_left order (slot ∷ []) d i in_range ∙ sym same ∙ sym (get_or-append-add order (slot ∷ []) 0 d))

All-last : (P : ℕ → Type 0) (order : List ℕ) (slot : ℕ) → All P (order ++ slot ∷ []) → P slot
All-last P order slot all =
    subst P (get_or-append-add order (slot ∷ []) 0 slot) (all (length order + 0) slot (omega (arith, length-append order (slot ∷ []))))

removed_differs : (order : List ℕ) (k d : ℕ) → AllPairs Differ order → k < length order → All (λ s. Differ s (get_or order k d)) (remove order k)
removed_differs [] k d distinct in_range = absurd (omega arith)
removed_differs (s ∷ order) zero d distinct in_range = λ i e within same. pairs-head s order distinct i e within (sym same)
removed_differs (s ∷ order) (suc k) d distinct in_range =
    All-cons (λ t. Differ t (get_or order k d)) s (remove order k) (All-get_or (Differ s) order k d (omega arith) (pairs-head s order distinct))
    (removed_differs order k d (pairs-tail s order distinct) (omega arith))

module _ (count : ℕ) (order free : List ℕ) where
  -- a new slot is free first
  pub apart_more : AreApart count order free → AreApart (suc count) order (free ++ count ∷ [])
  apart_more apart =
      let all = order ++ free in
      let same : all ++ count ∷ [] ≡ order ++ (free ++ count ∷ []) = append_assoc order free (count ∷ []) in
      record {
        distinct = subst (AllPairs Differ) same (all_pairs_push Differ all count apart.distinct (λ k d in_range is. absurd (omega (arith, apart.known k d in_range, is))));
        known = subst (All (λ s. s < suc count)) same (All-push (λ s. s < suc count) all count (λ k d in_range. omega (arith, apart.known k d in_range)) (omega arith));
        all = omega (arith, apart.all, length-append free (count ∷ []));
      }

  -- a free slot is that of a block
  module _ (slot : ℕ) (apart : AreApart count order (free ++ slot ∷ [])) where
    same_slots : order ++ (free ++ slot ∷ []) ≡ (order ++ free) ++ slot ∷ []
    same_slots = sym (append_assoc order free (slot ∷ []))

    pub slot_differs : All (Differ slot) order
    slot_differs = All-first (Differ slot) order free (pairs-last (order ++ free) slot (subst (AllPairs Differ) same_slots apart.distinct))

    pub slot_known : slot < count
    slot_known = All-last (λ s. s < count) (order ++ free) slot (subst (All (λ s. s < count)) same_slots apart.known)

    pub apart_used : (k : ℕ) → k ≤ length order → AreApart count (insert order k slot) free
    apart_used k within =
        let parts = subst (AllPairs Differ) same_slots apart.distinct in
        let same : insert (order ++ free) k slot ≡ insert order k slot ++ free = insert-append_left order free k slot within in
        record {
          distinct = subst (AllPairs Differ) same (pairs-insert (order ++ free) k slot (pairs-first (order ++ free) (slot ∷ []) parts) (pairs-last (order ++ free) slot parts));
          known = subst (All (λ s. s < count)) same
              (All-insert (λ s. s < count) (order ++ free) k slot slot_known (All-first (λ s. s < count) (order ++ free) (slot ∷ []) (subst (All (λ s. s < count)) same_slots apart.known)));
          all = omega (arith, apart.all, length-insert order k slot within, length-append free (slot ∷ []));
        }

  -- the slot of a block is free
  pub apart_freed : (k d : ℕ) → AreApart count order free → k < length order → AreApart count (remove order k) (free ++ get_or order k d ∷ [])
  apart_freed k d apart in_range =
      let slot = get_or order k d in
      let here : get_or (order ++ free) k d ≡ slot = get_or_append_left order free d k in_range in
      let known : k < length (order ++ free) = omega (arith, length-append order free) in
      let left : remove (order ++ free) k ≡ remove order k ++ free = remove-append_left order free k in_range in
      let same : remove (order ++ free) k ++ slot ∷ [] ≡ remove order k ++ (free ++ slot ∷ []) = ap (λ l. l ++ slot ∷ []) left ∙ append_assoc (remove order k) free (slot ∷ []) in
      record {
        distinct = subst (AllPairs Differ) same (all_pairs_push Differ (remove (order ++ free) k) slot (all_pairs_remove Differ (order ++ free) k known apart.distinct)
            (subst (λ t. All (λ s. Differ s t) (remove (order ++ free) k)) here (removed_differs (order ++ free) k d apart.distinct known)));
        known = subst (All (λ s. s < count)) same (All-push (λ s. s < count) (remove (order ++ free) k) slot (All-remove (λ s. s < count) (order ++ free) k apart.known)
            (subst (λ s. s < count) here (apart.known k d known)));
        all = omega (arith, apart.all, length-remove order k in_range, length-append free (slot ∷ []));
      }

-- a block put in before the one at k, in the last of the free slots
pub used_there : (slots : Blocks) (order free : List ℕ) (slot k : ℕ) (rows : List DirRow) → AreApart (length slots) order (free ++ slot ∷ [])
    → blocks_in (set slots slot rows) (insert order k slot) ≡ insert (blocks_in slots order) k rows
used_there slots order free slot k rows apart =
    map-insert (block_at (set slots slot rows)) order k slot
    ∙ (λ i. insert (others_stay slots order slot rows (slot_differs (length slots) order free slot apart) i) k
    (get_or-set_same slots slot rows [] (slot_known (length slots) order free slot apart) i))

-- in a new slot
pub added_there : (slots : Blocks) (order free : List ℕ) (k : ℕ) (rows : List DirRow) → AreApart (length slots) order free
    → blocks_in (slots ++ rows ∷ []) (insert order k (length slots)) ≡ insert (blocks_in slots order) k rows
added_there slots order free k rows apart =
    let here : block_at (slots ++ rows ∷ []) (length slots) ≡ rows =
    ap (block_at (slots ++ rows ∷ [])) {x = length slots} {y = length slots + 0} (omega arith) ∙ get_or-append-add slots (rows ∷ []) 0 [] in
    map-insert (block_at (slots ++ rows ∷ [])) order k (length slots)
    ∙ (λ i. insert (slots_more slots order rows (All-first (λ s. s < length slots) order free apart.known) i) k (here i))

-- the block at k, as it is found by its slot
pub record IsFound (slots : Blocks) (order : List ℕ) (k slot : ℕ) (found : List DirRow) : Type 0 where
  pub in_range : k < length (blocks_in slots order)
  pub slot_is : slot ≡ get_or order k slot
  pub rows_are : found ≡ get_or slots slot found

module _ (slots : Blocks) (order free : List ℕ) (apart : AreApart (length slots) order free) (k slot : ℕ) (found : List DirRow) (is : IsFound slots order k slot found) where
  in_order : k < length order
  in_order = omega (arith, is.in_range, length-map order (block_at slots))

  pub found_here : found ≡ block_at (blocks_in slots order) k
  found_here =
      let known : slot < length slots = subst (λ s. s < length slots) (sym is.slot_is) (All-get_or (λ s. s < length slots) order k slot in_order (All-first (λ s. s < length slots) order free apart.known)) in
      is.rows_are ∙ get_or_default slots slot found [] known ∙ ap (block_at slots) is.slot_is ∙ sym (get_or-map (block_at slots) order k slot [] in_order)

  pub changed_here : (rows : List DirRow) → blocks_in (set slots slot rows) order ≡ set (blocks_in slots order) k rows
  changed_here rows =
      ap (λ s. blocks_in (set slots s rows) order) is.slot_is
      ∙ changed_there slots order k slot rows (pairs-first order free apart.distinct) (All-first (λ s. s < length slots) order free apart.known) in_order
