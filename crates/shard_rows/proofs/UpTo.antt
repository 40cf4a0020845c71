-- Shards that are up to so many entries stay so.
use Rattle.std.proofs.Common.{◌≡◌, ℕ, zero, suc, ◌+◌, ◌≤◌, Bool, true, false, cond, eqb, Option, None, List, [], ◌∷◌, ◌++◌, length, take, sym, refl, ap, ◌∙◌, subst, arith}
use Rattle.std.specs.FinMap.{empty, get, get-empty, same_map}
use Rattle.std.proofs.lemmas.List.{length-append, take-append-le}
use Rattle.std.proofs.Math.Seq.{take-length}
use Rattle.dir_table.specs.Names.{Place, Names, place_cmp}
use Rattle.dir_table.proofs.Order.{places_total, places_exact}
use Rattle.shard_rows.specs.Replay.{DirEntry, opening, left_by}
use Rattle.shard_rows.specs.Shares.{names_in}
use Rattle.shard_rows.specs.Values.{ShardValue, IsUpTo, caught_up}
use Rattle.shard_rows.proofs.Shared.{get_in}

none_in : (dir : ℕ) → empty ≡ names_in empty dir
none_in dir = same_map places_total places_exact _ _ (λ q.
    get-empty place_cmp q ∙ sym (get_in empty dir q ∙ either (eqb q.0 dir) (get empty q) (get-empty place_cmp q)))
  where
    either : (b : Bool) (o : Option ℕ) → o ≡ None → cond b o None ≡ None
    either true o is = is
    either false o is = refl

pub up_to_nothing : (dir room : ℕ) (entries : List DirEntry) → IsUpTo entries (record { dir = dir; names = empty; known = 0; room = room })
up_to_nothing dir room entries = record { within = omega arith; names = none_in dir }

pub up_to_all : (entries : List DirEntry) (shard : ShardValue) → IsUpTo entries (caught_up entries shard)
up_to_all entries shard = record {
  within = omega arith;
  names = ap (λ es. names_in (left_by (opening shard.room) es).names shard.dir) (sym (take-length entries));
}

pub up_to_longer : (entries more : List DirEntry) (shard : ShardValue) → IsUpTo entries shard → IsUpTo (entries ++ more) shard
up_to_longer entries more shard kept = record {
  within = omega (arith, kept.within, length-append entries more);
  names = kept.names ∙ ap (λ es. names_in (left_by (opening shard.room) es).names shard.dir) (sym (take-append-le shard.known entries more kept.within));
}
