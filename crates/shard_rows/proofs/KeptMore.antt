-- What a journal keeps with an entry more.
use Rattle.std.proofs.Common.{◌≡◌, ℕ, ◌+◌, ◌<◌, ◌≤◌, List, [], ◌∷◌, ◌++◌, length, All, Some, None, sym, refl, ap, ◌∙◌, subst, arith}
use Rattle.std.specs.Prelude.{slice_set}
use Rattle.std.proofs.lemmas.List.{length-append, length-set}
use Rattle.std.proofs.lemmas.List.Elements.{All-push}
use Rattle.dir_table.specs.declared.calls.DirCall.{DirCall}
use Rattle.dir_table.specs.declared.calls.DirReply.{DirReply}
use Rattle.dir_table.specs.Meanings.{IsAdmitted}
use Rattle.dir_table.specs.Answers.{reply_to, after}
use Rattle.shard_rows.specs.Replay.{DirEntry, opening, left_by, number_of, numbers_of, entry_by}
use Rattle.shard_rows.specs.Shares.{next_after, first_named, last_named}
use Rattle.shard_rows.specs.Values.{JournalValue, IsKept}
use Rattle.shard_rows.proofs.Numbered.{numbered_opening, numbered_left, next_is}
use Rattle.dir_table.specs.declared.calls.DirCall.TheVariants.{Make, Drop, Rename, Find, Count, Next}
use Rattle.shard_rows.proofs.Quiet.{named_push}
use Rattle.shard_rows.proofs.Longer.{left_by-append, legal-push, numbers-push, numbers-length, next_most, placed-push}

-- a call that is admitted names directories below 64
dirs_admitted : (room : ℕ) (call : DirCall) → IsAdmitted room call → (first_named call < 64) × (last_named call < 64)
dirs_admitted room (Make dir name) a = (a.known, a.known)
dirs_admitted room (Drop dir name) a = (a.known, a.known)
dirs_admitted room (Rename dir name to_dir to_name) a = (a.0.known, a.1.known)
dirs_admitted room (Find dir name) a = (a.known, a.known)
dirs_admitted room (Count dir) a = (a, a)
dirs_admitted room (Next dir None) a = (a, a)
dirs_admitted room (Next dir (Some name)) a = (a.known, a.known)

module _ (entries : List DirEntry) (numbers newest : List ℕ) (next room limit capacity number_capacity : ℕ) (kept : IsKept entries numbers newest next room limit capacity number_capacity) where
  pub as_many : length numbers ≡ length entries
  as_many = ap length kept.beside ∙ numbers-length (opening room) entries

  pub next_few : next ≤ 65537
  next_few = let most = next_most (opening room) entries (numbered_opening room) in omega (arith, kept.next, kept.within, kept.few)

  -- whose directories have places
  pub named_within : (call : DirCall) → IsAdmitted room call → (first_named call < length newest) × (last_named call < length newest)
  named_within call admitted = let few = dirs_admitted room call admitted in let n = kept.directories in (omega (arith, few, n), omega (arith, few, n))

  pub kept_push : (worker number place behind : ℕ) (call : DirCall) (reply : DirReply) (capacity' number_capacity' : ℕ) → length entries < limit → IsAdmitted room call → place ≡ length entries
      → behind ≡ length entries + 1
      → reply ≡ reply_to (left_by (opening room) entries) call → number ≡ number_of (left_by (opening room) entries) call
      → limit ≤ capacity' → limit ≤ number_capacity'
      → IsKept (entries ++ entry_by worker call reply place ∷ []) (numbers ++ number ∷ []) (slice_set (slice_set newest (first_named call) behind) (last_named call) behind) (next_after call number next) room limit capacity' number_capacity'
  kept_push worker number place behind call reply capacity' number_capacity' left admitted at behind_is replied given more more_beside =
      let e = entry_by worker call reply place in
      let d = left_by (opening room) entries in
      record {
        legal = legal-push (opening room) entries e kept.legal replied;
        admitted = All-push (λ (x : DirEntry). IsAdmitted room x.call) entries e kept.admitted admitted;
        placed = placed-push entries e kept.placed at;
        beside = ap (λ ns. ns ++ number ∷ []) kept.beside ∙ ap (λ n. numbers_of (opening room) entries ++ n ∷ []) given ∙ sym (numbers-push (opening room) entries e);
        directories = length-set (slice_set newest (first_named call) behind) (last_named call) behind ∙ length-set newest (first_named call) behind ∙ kept.directories;
        named = let within = named_within call admitted in named_push entries newest e behind behind_is within.0 within.1 kept.named;
        next = ap (λ n. next_after call n next) given ∙ ap (next_after call (number_of d call)) kept.next
            ∙ sym (next_is d (numbered_left (opening room) entries (numbered_opening room)) call)
            ∙ ap (λ x. x.next_number) (sym (left_by-append (opening room) entries (e ∷ [])));
        within = omega (arith, length-append entries (e ∷ []));
        few = kept.few;
        reserved = more;
        reserved_beside = more_beside;
      }
