-- What the receipts of a history say.
use Rattle.std.specs.Prelude.{◌≡◌, ℕ, List, take, not, slice_get, Some}
use Rattle.std.specs.List.{count_by}
use Rattle.dir_table.specs.declared.calls.DirCall.{DirCall}
use Rattle.dir_table.specs.declared.calls.DirReply.{DirReply}
use Rattle.dir_table.specs.Meanings.{is_read}
use Rattle.hist_log.specs.declared.entry.Entry.{Entry}

-- the receipt of each entry is the number of writes before it
abbrev pub CountWrites : {O : Type 0} → List (Entry O DirCall DirReply) → Type 0
CountWrites {O} entries = (place : ℕ) (e : Entry O DirCall DirReply) → slice_get entries place ≡ Some e → e.receipt ≡ count_by (λ x. not (is_read x.call)) (take place entries)
