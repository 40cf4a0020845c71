-- The first row of rows that are edited, and the first rows of blocks of which one is.
use Rattle.std.proofs.Common.{◌≡◌, ℕ, zero, suc, ◌<◌, ◌≤◌, Bool, List, [], ◌∷◌, map, set, take, drop, length, get_or, sym, refl, ap, ◌∙◌, arith}
use Rattle.std.specs.List.{insert, remove}
use Rattle.std.proofs.lemmas.List.{map-set, get_or-map}
use Rattle.std.proofs.Math.Seq.{map-set_same}
use Rattle.dir_table.specs.declared.calls.DirRow.{DirRow}
use Rattle.dir_table.specs.Blocks.{Blocks, block_at, half_room, first_row, begins_with, halved}
use Rattle.dir_table.proofs.ListEdits.{map-insert, map-remove}

pub put_first : (rows : List DirRow) (at : ℕ) (row : DirRow) → at ≡ 0 → row ≡ first_row (insert rows at row)
put_first [] zero row none = refl
put_first (r ∷ rows) zero row none = refl
put_first rows (suc at) row none = absurd (omega (arith, none))

pub put_behind : (rows : List DirRow) (at : ℕ) (row first : DirRow) → 0 < at → at ≤ length rows → first ≡ first_row rows → first ≡ first_row (insert rows at row)
put_behind rows zero row first behind within is = absurd (omega arith)
put_behind [] (suc at) row first behind within is = absurd (omega arith)
put_behind (r ∷ rows) (suc at) row first behind within is = is

pub set_first : (rows : List DirRow) (at : ℕ) (row : DirRow) → at ≡ 0 → at < length rows → row ≡ first_row (set rows at row)
set_first [] at row none within = absurd (omega arith)
set_first (r ∷ rows) zero row none within = refl
set_first (r ∷ rows) (suc at) row none within = absurd (omega (arith, none))

pub set_behind : (rows : List DirRow) (at : ℕ) (row first : DirRow) → 0 < at → first ≡ first_row rows → first ≡ first_row (set rows at row)
set_behind rows zero row first behind is = absurd (omega arith)
set_behind [] (suc at) row first behind is = is
set_behind (r ∷ rows) (suc at) row first behind is = is

pub removed_behind : (rows : List DirRow) (at : ℕ) (first : DirRow) → 0 < at → at < length rows → first ≡ first_row rows → first ≡ first_row (remove rows at)
removed_behind rows zero first behind within is = absurd (omega arith)
removed_behind [] (suc at) first behind within is = absurd (omega arith)
removed_behind (r ∷ rows) (suc at) first behind within is = is

-- the lower half of a full block
pub half_begins : (rows : List DirRow) → first_row (take half_room rows) ≡ first_row rows
half_begins [] = refl
half_begins (r ∷ rows) = refl

-- rows begin with their first one, where there is any
pub begins_by_first : (test : DirRow → Bool) (rows : List DirRow) → 0 < length rows → begins_with test rows ≡ test (first_row rows)
begins_by_first test [] some = absurd (omega arith)
begins_by_first test (r ∷ rows) some = refl

-- the first rows of blocks of which the one at k has other rows
pub begun_there : (firsts : List DirRow) (blocks changed : Blocks) (k : ℕ) (first : DirRow) (rows : List DirRow)
    → firsts ≡ map first_row blocks → changed ≡ set blocks k rows → first ≡ first_row rows → set firsts k first ≡ map first_row changed
begun_there firsts blocks changed k first rows begun change is =
    (λ i. set (begun i) k (is i)) ∙ sym (map-set first_row blocks k rows) ∙ ap (map first_row) (sym change)

-- that of one block
pub begun_at : (firsts : List DirRow) (blocks : Blocks) (k : ℕ) (first : DirRow) → firsts ≡ map first_row blocks → k < length blocks
    → first ≡ get_or firsts k first → first ≡ first_row (block_at blocks k)
begun_at firsts blocks k first begun known is = is ∙ ap (λ l. get_or l k first) begun ∙ get_or-map first_row blocks k [] first known

-- those of blocks of which a full one became two
pub begun_halved : (firsts : List DirRow) (blocks : Blocks) (k : ℕ) (first : DirRow) → firsts ≡ map first_row blocks
    → first ≡ first_row (drop half_room (block_at blocks k)) → insert firsts (suc k) first ≡ map first_row (halved blocks k)
begun_halved firsts blocks k first begun is =
    let lower = take half_room (block_at blocks k) in
    let upper = drop half_room (block_at blocks k) in
    (λ i. insert (begun i) (suc k) (is i))
    ∙ ap (λ l. insert l (suc k) (first_row upper)) (sym (map-set_same first_row blocks k lower [] (half_begins (block_at blocks k))))
    ∙ sym (map-insert first_row (set blocks k lower) (suc k) upper)

-- those of blocks of which one is gone
pub begun_without : (firsts : List DirRow) (blocks : Blocks) (k : ℕ) → firsts ≡ map first_row blocks → remove firsts k ≡ map first_row (remove blocks k)
begun_without firsts blocks k begun = ap (λ l. remove l k) begun ∙ sym (map-remove first_row blocks k)
