-- Writing within a room that was reserved.
use Rattle.std.specs.Prelude.{◌≡◌, ℕ, ◌+◌, ◌≤◌, List, ◌++◌, length, Vec, vec_capacity}
use Rattle.std.specs.declared.alloc.Global.{Global}

-- a text of at most so many bytes: where there was room for as many, it stands behind what stood there
pub record Puts (before after : Vec ℕ Global) (text : List ℕ) (most : ℕ) : Type 0 where
  pub few : length text ≤ most
  pub written : length before.items + most ≤ vec_capacity before → after.items ≡ before.items ++ text
  -- the room never shrinks
  pub kept : vec_capacity before ≤ vec_capacity after
