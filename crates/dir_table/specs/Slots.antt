-- Blocks in slots: which slot each block has, and which slots are free.
use Rattle.std.specs.Prelude.{◌≡◌, ◌≢◌, ℕ, ◌+◌, ◌<◌, ◌≤◌, ◌^◌, List, ◌++◌, length, map, All, AllPairs, Vec}
use Rattle.std.specs.declared.alloc.Global.{Global}
use Rattle.std.specs.Vec.{vec_capacity}
use Rattle.dir_table.specs.declared.calls.DirRow.{DirRow}
use Rattle.dir_table.specs.Blocks.{Blocks, block_at, first_row}

-- the blocks that these slots hold, in the order of the slots
abbrev pub blocks_in : Blocks → List ℕ → Blocks
blocks_in slots order = map (block_at slots) order

-- blocks as their users see them
pub record Listed : Type 0 where
  pub blocks : Blocks
  -- how many more blocks there is memory for
  pub left : ℕ

-- of `count` slots each is named once: as that of a block, or as a free one
pub record AreApart (count : ℕ) (order free : List ℕ) : Type 0 where
  pub distinct : AllPairs (λ slot other. slot ≢ other) (order ++ free)
  pub known : All (λ slot. slot < count) (order ++ free)
  pub all : length order + length free ≡ count

-- what a list of blocks keeps of its slots
pub record AreHeld (slots : Vec (List DirRow) Global) (order free : Vec ℕ Global) : Type 0 where
  pub apart : AreApart (length slots.items) order.items free.items
  pub within : length slots.items ≤ vec_capacity slots
  -- a slot's number is a `u32`
  pub numbered : vec_capacity slots < 2 ^ 32
  -- wherever the slots that there is memory for are named, there is memory for all their numbers
  pub listed : vec_capacity slots ≤ vec_capacity order
  pub returned : vec_capacity slots ≤ vec_capacity free

-- what it keeps besides: the first row of each block
pub record AreListed (slots : Vec (List DirRow) Global) (order free : Vec ℕ Global) (firsts : Vec DirRow Global) : Type 0 where
  pub held : AreHeld slots order free
  pub begun : firsts.items ≡ map first_row (blocks_in slots.items order.items)
  -- wherever there is memory for a block, there is for its first row
  pub noted : vec_capacity slots ≤ vec_capacity firsts
