-- A call is answered by the names of the directory that it reads, and by the next number.
use Rattle.std.proofs.Common.{◌≡◌, ℕ, Bool, true, false, cond, eqb, List, Option, Some, None, length, sym, refl, ap, ◌∙◌}
use Rattle.std.specs.Prelude.{◌&&◌, is_some, find, filter}
use Rattle.std.specs.Option.{unwrap_or}
use Rattle.std.specs.FinMap.{get, entries}
use Rattle.dir_table.specs.declared.calls.DirCall.{DirCall}
use Rattle.dir_table.specs.declared.calls.DirCall.TheVariants.{Make, Drop, Rename, Find, Count, Next}
use Rattle.dir_table.specs.declared.calls.DirReply.TheVariants.{Ino, Done, Exists, Absent, Number}
use Rattle.dir_table.specs.Names.{Place, Names}
use Rattle.dir_table.specs.Directory.{Directory}
use Rattle.dir_table.specs.Answers.{reply_to, number_reply, name_reply, comes_after, next_name, count_in}
use Rattle.shard_rows.specs.Replay.{number_of}
use Rattle.shard_rows.specs.Shares.{names_in, first_named, alone}
use Rattle.shard_rows.proofs.Filtered.{filter-filter, find-filter, entries_kept}
use Rattle.shard_rows.proofs.Shared.{get_here}

abbrev of_directory : ℕ → Place × ℕ → Bool
of_directory dir e = eqb e.0.0 dir

entries_in : (names : Names) (dir : ℕ) → entries (names_in names dir) ≡ filter (of_directory dir) (entries names)
entries_in names dir = entries_kept names (λ place. eqb place.0 dir)

count_alone : (names : Names) (dir : ℕ) → count_in (names_in names dir) dir ≡ count_in names dir
count_alone names dir =
    ap (λ es. length (filter (of_directory dir) es)) (entries_in names dir)
    ∙ ap length (filter-filter (of_directory dir) (of_directory dir) (entries names))

next_alone : (names : Names) (dir : ℕ) (bound : Option ℕ) → next_name (names_in names dir) dir bound ≡ next_name names dir bound
next_alone names dir bound =
    ap (find (λ e. eqb e.0.0 dir && comes_after bound e.0.1)) (entries_in names dir)
    ∙ find-filter (of_directory dir) (λ e. comes_after bound e.0.1) (entries names)

module _ (d : Directory) where
  pub reply_named : (call : DirCall) → reply_to (alone d (names_in d.names (first_named call))) call ≡ reply_to d call
  reply_named (Make dir name) = ap (λ o. cond (is_some o) Exists (Ino d.next_number)) (get_here d.names dir name)
  reply_named (Drop dir name) = ap (λ o. cond (is_some o) Done Absent) (get_here d.names dir name)
  reply_named (Rename dir name to_dir to_name) = ap (λ o. cond (is_some o) Done Absent) (get_here d.names dir name)
  reply_named (Find dir name) = ap number_reply (get_here d.names dir name)
  reply_named (Count dir) = ap Number (count_alone d.names dir)
  reply_named (Next dir bound) = ap name_reply (next_alone d.names dir bound)

  pub number_named : (call : DirCall) → number_of (alone d (names_in d.names (first_named call))) call ≡ number_of d call
  number_named (Make dir name) = ap (λ o. cond (is_some o) 0 d.next_number) (get_here d.names dir name)
  number_named (Drop dir name) = refl
  number_named (Rename dir name to_dir to_name) = ap (λ o. cond ((eqb dir to_dir) && (eqb name to_name)) 0 (unwrap_or o 0)) (get_here d.names dir name)
  number_named (Find dir name) = refl
  number_named (Count dir) = refl
  number_named (Next dir bound) = refl
