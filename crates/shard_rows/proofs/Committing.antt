-- What a commit answers and leaves, by the shard that was brought forward.
use Rattle.std.proofs.Common.{◌≡◌, ℕ, ◌+◌, Bool, cond, eqb, List, [], ◌∷◌, ◌++◌, length, Option, sym, refl, ap, ap₂, ◌∙◌, subst, arith}
use Rattle.std.specs.Prelude.{◌&&◌, is_some}
use Rattle.std.specs.Option.{unwrap_or}
use Rattle.std.specs.FinMap.{get, contains_key}
use Rattle.std.proofs.lemmas.List.{length-append}
use Rattle.dir_table.specs.declared.calls.DirCall.{DirCall}
use Rattle.dir_table.specs.declared.calls.DirCall.TheVariants.{Make, Drop, Rename, Find, Count, Next}
use Rattle.dir_table.specs.declared.calls.DirReply.{DirReply}
use Rattle.dir_table.specs.declared.calls.DirReply.TheVariants.{Ino, Done, Exists, Absent, Number}
use Rattle.dir_table.specs.Names.{Names}
use Rattle.dir_table.specs.Directory.{Directory}
use Rattle.dir_table.specs.Answers.{reply_to, number_reply, name_reply, next_name, count_in}
use Rattle.shard_rows.specs.Replay.{DirEntry, opening, left_by, number_of}
use Rattle.shard_rows.specs.Shares.{names_in, first_named, alone, advanced}
use Rattle.shard_rows.specs.Values.{ShardValue, shard_alone, caught_up}
use Rattle.shard_rows.proofs.Named.{reply_named, number_named}
use Rattle.shard_rows.proofs.Forward.{followed}

-- replies and numbers look at the names and the next number alone
module _ (d e : Directory) (names : d.names ≡ e.names) (next : d.next_number ≡ e.next_number) where
  reply_alike : (call : DirCall) → reply_to d call ≡ reply_to e call
  reply_alike (Make dir name) = ap₂ (λ m n. cond (contains_key m (dir, name)) Exists (Ino n)) names next
  reply_alike (Drop dir name) = ap (λ m. cond (contains_key m (dir, name)) Done Absent) names
  reply_alike (Rename dir name to_dir to_name) = ap (λ m. cond (contains_key m (dir, name)) Done Absent) names
  reply_alike (Find dir name) = ap (λ m. number_reply (get m (dir, name))) names
  reply_alike (Count dir) = ap (λ m. Number (count_in m dir)) names
  reply_alike (Next dir bound) = ap (λ m. name_reply (next_name m dir bound)) names

  number_alike : (call : DirCall) → number_of d call ≡ number_of e call
  number_alike (Make dir name) = ap₂ (λ m n. cond (contains_key m (dir, name)) 0 n) names next
  number_alike (Drop dir name) = refl
  number_alike (Rename dir name to_dir to_name) = ap (λ m. cond ((eqb dir to_dir) && (eqb name to_name)) 0 (unwrap_or (get m (dir, name)) 0)) names
  number_alike (Find dir name) = refl
  number_alike (Count dir) = refl
  number_alike (Next dir bound) = refl

module _ (es : List DirEntry) (room next : ℕ) (shard s : ShardValue) (call : DirCall) (is : s ≡ caught_up es shard) (in_room : shard.room ≡ room)
    (named : first_named call ≡ shard.dir) (next_is : next ≡ (left_by (opening room) es).next_number) where
  all : Directory
  all = left_by (opening room) es

  share : s.names ≡ names_in all.names (first_named call)
  unfolding all
  share = ap (λ (x : ShardValue). x.names) is ∙ ap (λ r. names_in (left_by (opening r) es).names shard.dir) in_room ∙ ap (names_in (left_by (opening room) es).names) (sym named)

  pub committed_reply : (r : DirReply) → r ≡ reply_to (shard_alone s next) call → r ≡ reply_to (left_by (opening room) es) call
  unfolding all
  committed_reply r answered =
      answered ∙ reply_alike (shard_alone s next) (alone all (names_in all.names (first_named call))) share next_is call ∙ reply_named all call

  pub committed_number : (n : ℕ) → n ≡ number_of (shard_alone s next) call → n ≡ number_of (left_by (opening room) es) call
  unfolding all
  committed_number n answered =
      answered ∙ number_alike (shard_alone s next) (alone all (names_in all.names (first_named call))) share next_is call ∙ number_named all call

-- the shard that follows the entry has caught up with it
pub shard_follows : (es : List DirEntry) (e : DirEntry) (room number : ℕ) (shard s new : ShardValue) → s ≡ caught_up es shard → shard.room ≡ room
    → number ≡ number_of (left_by (opening room) es) e.call
    → new ≡ record s { names = advanced s.dir s.names e.call number; known = s.known + 1 } → new ≡ caught_up (es ++ e ∷ []) shard
shard_follows es e room number shard s new is in_room given then =
    let given_here : number ≡ number_of (left_by (opening shard.room) es) e.call = given ∙ ap (λ r. number_of (left_by (opening r) es) e.call) (sym in_room) in
    then
    ∙ ap {B = ShardValue} (λ (x : ShardValue). record x { names = advanced x.dir x.names e.call number; known = x.known + 1 }) is
    ∙ ap {B = ShardValue} (λ m. record shard { names = m; known = length es + 1 })
    (followed shard.room shard.dir es e (names_in (left_by (opening shard.room) es).names shard.dir) number refl given_here)
    ∙ ap {B = ShardValue} (λ n. record shard { names = names_in (left_by (opening shard.room) (es ++ e ∷ [])).names shard.dir; known = n }) (sym (length-append es (e ∷ [])))
