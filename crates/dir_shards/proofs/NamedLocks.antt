-- The two locks of a rename over two directories.
use Rattle.std.proofs.Common.{◌≡◌, ◌≢◌, ◌⊎◌, inl, inr, ℕ, min, max, Bool, true, false, cond, eqb, Some, None, Option, refl, sym, ap, ◌∙◌, arith, eq-eqb}
use Rattle.std.proofs.lemmas.Bool.Decides.{nat_tests}
use native.Mathlib.Decide.{dec_le}
use Rattle.dir_table.specs.declared.calls.DirCall.{DirCall}
use Rattle.dir_table.specs.declared.calls.DirCall.TheVariants.{Make, Drop, Rename, Find, Count, Next}
use Rattle.shard_rows.specs.Shares.{first_named}
use Rattle.dir_shards.specs.Naming.{other_named}

-- the other directory is another one
pub other_than : (call : DirCall) (other : ℕ) → other_named call ≡ Some other → other ≢ first_named call
other_than (Make dir name) other is same = cc
other_than (Drop dir name) other is same = cc
other_than (Rename dir name to_dir to_name) other is same = by (eqb dir to_dir) refl is
  where
    by : (b : Bool) → eqb dir to_dir ≡ b → cond b None (Some to_dir) ≡ Some other → ⊥
    by true test at = cc
    by false test at = let there : to_dir ≡ other = cc in let here : eqb dir to_dir ≡ true = eq-eqb dir to_dir (sym (there ∙ same)) in cc
other_than (Find dir name) other is same = cc
other_than (Count dir) other is same = cc
other_than (Next dir bound) other is same = cc

pub apart : (first other : ℕ) → other ≢ first → min first other ≢ max first other
apart first other differ same = differ (omega arith)

pub one_of : (first other : ℕ) → (first ≡ min first other) ⊎ (first ≡ max first other)
one_of first other = elim (dec_le first other) [
  | yes below ↦ inl (omega arith)
  | no above ↦ inr (omega arith)
]
