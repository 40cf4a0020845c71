-- A shard with an entry more.
use Rattle.std.proofs.Common.{◌≡◌, ℕ, zero, suc, ◌+◌, ◌<◌, ◌≤◌, List, [], ◌∷◌, ◌++◌, length, take, get_or, slice_index, Some, sym, refl, ap, ◌∙◌, subst, arith}
use Rattle.std.specs.Prelude.{slice_get}
use Rattle.std.proofs.lemmas.List.{take_more}
use Rattle.std.proofs.lemmas.Option.{slice_get_within, get_or_from_slice_get}
use Rattle.dir_table.specs.declared.calls.DirCall.{DirCall}
use Rattle.dir_table.specs.Names.{Names}
use Rattle.dir_table.specs.Directory.{Directory}
use Rattle.dir_table.specs.Answers.{reply_to, after}
use Rattle.shard_rows.specs.Replay.{DirEntry, opening, left_by, number_of, numbers_of}
use Rattle.shard_rows.specs.Shares.{names_in, advanced}
use Rattle.shard_rows.proofs.Shared.{advanced_after}
use Rattle.shard_rows.proofs.Numbered.{numbered_opening, numbered_left}
use Rattle.shard_rows.proofs.Longer.{left_by-append, number_at}

-- by the call and the number after the entries
pub followed : (room k : ℕ) (es : List DirEntry) (e : DirEntry) (names : Names) (number : ℕ) → names ≡ names_in (left_by (opening room) es).names k
    → number ≡ number_of (left_by (opening room) es) e.call → advanced k names e.call number ≡ names_in (left_by (opening room) (es ++ e ∷ [])).names k
followed room k es e names number is given =
    let d = left_by (opening room) es in
    ap (λ m. advanced k m e.call number) is ∙ ap (advanced k (names_in d.names k) e.call) given
    ∙ sym (advanced_after d (numbered_left (opening room) es (numbered_opening room)) k e.call)
    ∙ ap (λ x. names_in x.names k) (sym (left_by-append (opening room) es (e ∷ [])))

pub forward_step : (room k place : ℕ) (es : List DirEntry) (e : DirEntry) (names : Names) → slice_get es place ≡ Some e
    → names ≡ names_in (left_by (opening room) (take place es)).names k
    → advanced k names e.call (slice_index (numbers_of (opening room) es) place) ≡ names_in (left_by (opening room) (take (place + 1) es)).names k
forward_step room k place es e names at is =
    let within = slice_get_within es place e at in
    let longer : take (place + 1) es ≡ take place es ++ e ∷ [] = take_more es place e within ∙ ap (λ x. take place es ++ x ∷ []) (get_or_from_slice_get es place e e at) in
    followed room k (take place es) e names (slice_index (numbers_of (opening room) es) place) is (number_at (opening room) es place e at)
    ∙ ap (λ l. names_in (left_by (opening room) l).names k) (sym longer)
