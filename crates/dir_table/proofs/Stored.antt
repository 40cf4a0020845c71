-- What is kept of the blocks, and of the memory for more, by an edit.
use Rattle.std.proofs.Common.{◌≡◌, ℕ, zero, suc, ◌+◌, ◌-◌, ◌<◌, ◌≤◌, List, [], ◌∷◌, set, take, drop, length, get_or, sym, ap, ◌∙◌, subst, arith}
use Rattle.std.specs.List.{insert, remove}
use Rattle.std.proofs.lemmas.List.{length-set, length-take-le, length-drop, get_or-set_same, set-set}
use Rattle.std.proofs.lemmas.List.Elements.{All-set}
use Rattle.std.proofs.lemmas.List.Sums.{sum_by-set, sum_by-insert, sum_by-remove, get_or-le-sum_by}
use Rattle.dir_table.specs.declared.calls.DirRow.{DirRow}
use Rattle.dir_table.specs.Blocks.{Blocks, block_at, block_room, half_room, crowding, halved, AreFilled, AreStored}
use Rattle.dir_table.proofs.ListEdits.{All-insert, All-remove, remove-set}

abbrev HasRows : List DirRow → Type 0
HasRows rows = 0 < length rows

abbrev HasRoom : List DirRow → Type 0
HasRoom rows = length rows < block_room

-- how many of the rows stand above the half
abbrev above_half : List DirRow → ℕ
above_half rows = length rows - half_room

filled-set : (blocks : Blocks) (k : ℕ) (rows : List DirRow) → AreFilled blocks → (0 < k → HasRows rows) → AreFilled (set blocks k rows)
filled-set [] k rows f some = absurd (let s = f.some in omega arith)
filled-set (b ∷ bs) zero rows f some = record { some = omega arith; filled = f.filled }
filled-set (b ∷ bs) (suc k) rows f some = record { some = omega arith; filled = All-set HasRows bs k rows (some (omega arith)) f.filled }

filled-insert : (blocks : Blocks) (k : ℕ) (rows : List DirRow) → AreFilled blocks → HasRows rows → AreFilled (insert blocks (suc k) rows)
filled-insert [] k rows f some = absurd (let s = f.some in omega arith)
filled-insert (b ∷ bs) k rows f some = record { some = omega arith; filled = All-insert HasRows bs k rows some f.filled }

filled-remove : (blocks : Blocks) (k : ℕ) → AreFilled blocks → 0 < k → AreFilled (remove blocks k)
filled-remove [] k f behind = absurd (let s = f.some in omega arith)
filled-remove (b ∷ bs) zero f behind = absurd (omega arith)
filled-remove (b ∷ bs) (suc k) f behind = record { some = omega arith; filled = All-remove HasRows bs k f.filled }

module _ (blocks : Blocks) (spare left k : ℕ) (rows : List DirRow) (known : k < length blocks) where
  crowded : crowding (set blocks k rows) + above_half (block_at blocks k) ≡ crowding blocks + above_half rows
  crowded = sum_by-set above_half blocks k rows [] known

  -- one block has other rows, not more than before
  pub stored_changed : AreStored blocks spare left → (0 < k → HasRows rows) → length rows ≤ length (block_at blocks k) → AreStored (set blocks k rows) spare left
  stored_changed st some fewer = let sum = crowded in let room = st.apart k [] known in record {
    filled = filled-set blocks k rows st.filled some;
    apart = All-set HasRoom blocks k rows (omega arith) st.apart;
    reserved = omega (arith, st.reserved);
  }

  -- the block at k has no row left, and is given back
  pub stored_emptied : AreStored blocks spare left → 0 < k → AreStored (remove (set blocks k rows) k) spare (left + 1)
  stored_emptied st behind =
      let sum : crowding (remove blocks k) + above_half (block_at blocks k) ≡ crowding blocks = sum_by-remove above_half blocks k [] known in
      subst (λ bs. AreStored bs spare (left + 1)) (sym (remove-set blocks k rows)) (record {
        filled = filled-remove blocks k st.filled behind;
        apart = All-remove HasRoom blocks k st.apart;
        reserved = omega (arith, st.reserved);
      })

  module _ (st : AreStored blocks (suc spare) left) (one_more : length rows ≡ length (block_at blocks k) + 1) where
    -- the block at k has one row more, and room for further ones
    pub stored_added : HasRoom rows → AreStored (set blocks k rows) spare left
    stored_added room = let sum = crowded in record {
      filled = filled-set blocks k rows st.filled (λ _. omega arith);
      apart = All-set HasRoom blocks k rows room st.apart;
      reserved = omega (arith, st.reserved);
    }

    -- where it is full, there is memory for one more
    pub one_left : length rows ≡ block_room → 0 < left
    one_left full =
        let sum = crowded in
        let least : above_half (get_or (set blocks k rows) k []) ≤ crowding (set blocks k rows) = get_or-le-sum_by above_half (set blocks k rows) k [] (omega (arith, length-set blocks k rows)) in
        let here : above_half (get_or (set blocks k rows) k []) ≡ above_half rows = ap above_half (get_or-set_same blocks k rows [] known) in
        omega (arith, st.reserved)

    halves_are : halved (set blocks k rows) k ≡ insert (set blocks k (take half_room rows)) (suc k) (drop half_room rows)
    halves_are =
        ap (λ rs. insert (set (set blocks k rows) k (take half_room rs)) (suc k) (drop half_room rs)) (get_or-set_same blocks k rows [] known)
        ∙ ap (λ bs. insert bs (suc k) (drop half_room rows)) (set-set blocks k rows (take half_room rows))

    -- and then its upper half is a block of its own
    pub stored_halved : length rows ≡ block_room → (left' : ℕ) → left' + 1 ≡ left → AreStored (halved (set blocks k rows) k) spare left'
    stored_halved full left' fewer =
        let lower = length-take-le half_room rows (omega arith) in
        let upper = length-drop half_room rows in
        let sum : crowding (set blocks k (take half_room rows)) + above_half (block_at blocks k) ≡ crowding blocks + above_half (take half_room rows) = sum_by-set above_half blocks k (take half_room rows) [] known in
        let both : crowding (insert (set blocks k (take half_room rows)) (suc k) (drop half_room rows)) ≡ crowding (set blocks k (take half_room rows)) + above_half (drop half_room rows) =
        sum_by-insert above_half (set blocks k (take half_room rows)) (suc k) (drop half_room rows) in
        subst (λ bs. AreStored bs spare left') (sym halves_are) (record {
          filled = filled-insert (set blocks k (take half_room rows)) k (drop half_room rows) (filled-set blocks k (take half_room rows) st.filled (λ _. omega arith)) (omega arith);
          apart = All-insert HasRoom (set blocks k (take half_room rows)) (suc k) (drop half_room rows) (omega arith) (All-set HasRoom blocks k (take half_room rows) (omega arith) st.apart);
          reserved = omega (arith, st.reserved);
        })

-- the same blocks and the same memory
pub stored_as : (blocks blocks' : Blocks) (spare left left' : ℕ) → blocks' ≡ blocks → left' ≡ left → AreStored blocks spare left → AreStored blocks' spare left'
stored_as blocks blocks' spare left left' same as_many st = subst (AreStored blocks' spare) (sym as_many) (subst (λ bs. AreStored bs spare left) (sym same) st)
