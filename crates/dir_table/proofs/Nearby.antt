-- Where a test of rows in order changes, by the rows on both sides.
use Rattle.std.proofs.Common.{◌≡◌, ℕ, ◌+◌, ◌-◌, ◌<◌, ◌≤◌, Bool, true, false, List, [], take, length, get_or, Some, sym, refl, ap, ◌∙◌, inl, inr, arith}
use Rattle.std.specs.Prelude.{not}
use Rattle.std.specs.List.{slice_get}
use Rattle.std.proofs.lemmas.Option.{slice_get-get_or}
use Rattle.std.proofs.lemmas.Bool.{cases_lt, false≢true}
use Rattle.dir_table.specs.declared.calls.DirRow.{DirRow}
use Rattle.dir_table.specs.Names.{Place}
use Rattle.dir_table.specs.Rows.{AreInOrder}
use Rattle.dir_table.specs.declared.block.Spot.{Spot}
use Rattle.dir_table.specs.Blocks.{Blocks, joined, block_at, rows_before, is_below, IsRow, IsCut}
use Rattle.dir_table.proofs.Limits.{below_first}
use Rattle.dir_table.proofs.Reading.{before_within}
use Rattle.dir_table.proofs.Spots.{row_there}

false_unless : (b : Bool) → (b ≡ true → ⊥) → b ≡ false
false_unless true never = absurd (never refl)
false_unless false never = refl

-- the row before the cut is below, and the one behind it isn't, where there are such rows
pub cut_between : (rows : List DirRow) (limit : Place) (i : ℕ) → AreInOrder rows → i ≤ length rows
    → (0 < i → (d : DirRow) → is_below limit (get_or rows (i - 1) d) ≡ true) → ((d : DirRow) → i < length rows → is_below limit (get_or rows i d) ≡ false) → IsCut rows limit i
cut_between rows limit i sorted within before behind =
    let parted = below_first rows limit sorted in record {
      within = within;
      before = λ j d from below. elim (cases_lt (j + 1) i) [
        | inl earlier ↦ parted j (i - 1) d (omega arith) (omega arith) (before (omega arith) d)
        | inr last ↦ (let is : j ≡ i - 1 = omega arith in (λ k. is_below limit (get_or rows (is k) d)) ∙ before (omega arith) d)
      ];
      behind = λ j d from below. false_unless _ (λ passes. elim (cases_lt i j) [
        | inl later ↦ false≢true (sym (behind d (omega arith)) ∙ parted i j d (omega arith) below passes)
        | inr here ↦ (let is : i ≡ j = omega arith in false≢true (sym (behind d (omega arith)) ∙ ((λ k. is_below limit (get_or rows (is k) d)) ∙ passes)))
      ]);
    }

pub not_true : (b : Bool) → not b ≡ true → b ≡ false
not_true true h = absurd (false≢true h)
not_true false h = refl

-- no row stands before the start of the first block
pub none_before : (blocks : Blocks) (spot : Spot) → (spot.at ≡ 0 → spot.block ≡ 0) → spot.at ≡ 0 → rows_before blocks spot ≡ 0
none_before blocks spot start none =
    (λ k. length (joined (take (start none k) blocks)) + none k)

inside_unless_first : (blocks : Blocks) (spot : Spot) → (spot.at ≡ 0 → spot.block ≡ 0) → 0 < rows_before blocks spot → 0 < spot.at
inside_unless_first blocks spot start some = elim (cases_lt 0 spot.at) [
  | inl inside ↦ inside
  | inr none ↦ absurd (omega (arith, none_before blocks spot start (omega arith)))
]

-- the same at a spot inside a block, at its end, or where all rows begin
pub cut_by_sides : (blocks : Blocks) (spot : Spot) (limit : Place) → AreInOrder (joined blocks) → spot.block < length blocks → (spot.at ≡ 0 → spot.block ≡ 0)
    → spot.at ≤ length (block_at blocks spot.block) → ((none : DirRow) → 0 < spot.at → is_below limit (get_or (block_at blocks spot.block) (spot.at - 1) none) ≡ true)
    → ((row : DirRow) → slice_get (joined blocks) (rows_before blocks spot) ≡ Some row → is_below limit row ≡ false) → IsCut (joined blocks) limit (rows_before blocks spot)
cut_by_sides blocks spot limit sorted known start within passes fails =
    cut_between (joined blocks) limit (rows_before blocks spot) sorted (before_within blocks spot.block spot.at [] known within)
    (λ some d.
    let inside : 0 < spot.at = inside_unless_first blocks spot start some in
    let last : Spot = record { block = spot.block; at = spot.at - 1 } in
    let there : IsRow blocks last = record { block = known; row = omega arith } in
    let same : get_or (joined blocks) (rows_before blocks spot - 1) d ≡ get_or (block_at blocks spot.block) (spot.at - 1) d =
    ap (λ n. get_or (joined blocks) n d) {x = rows_before blocks spot - 1} {y = rows_before blocks last} (omega arith) ∙ row_there blocks last there d in
    (λ k. is_below limit (same k)) ∙ passes d inside)
    (λ d in_range. fails (get_or (joined blocks) (rows_before blocks spot) d) (slice_get-get_or (joined blocks) (rows_before blocks spot) d in_range))
