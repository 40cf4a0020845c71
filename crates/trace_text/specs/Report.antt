-- The report of a replay, and the summary of a bulk run.
use Rattle.std.specs.Prelude.{ℕ, ◌==◌, List, [], ◌∷◌, ◌++◌, length, map, codes}
use Rattle.std.specs.List.{flat_map, count_by}
use Rattle.std.specs.Fmt.{decimal}
use Rattle.bpf_isa.specs.declared.insn.Profile.{Profile}
use Rattle.dir_table.specs.declared.calls.DirReply.{DirReply}
use Rattle.dir_table.specs.declared.calls.DirReply.TheVariants as reply
use Rattle.dir_table.specs.declared.calls.DirCall.{DirCall}
use Rattle.dir_table.specs.Names.{Place}
use Rattle.hist_log.specs.declared.entry.Entry.{Entry}
use Rattle.doc_text.specs.Text.{ended}
use Rattle.doc_text.specs.Words.{spaced}
use Rattle.policy_text.specs.Headings.{version_words}
use Rattle.trace_text.specs.Spelling.{act_words}
use Rattle.trace_text.specs.Traces.{dir_act}
use Rattle.name_order.specs.Names.{name_at}

-- what an entry of a history is, whatever the object's type
pub record Done : Type 0 where
  pub worker : ℕ
  pub call : DirCall
  pub reply : DirReply

abbrev pub done_of : {O : Type 0} → Entry O DirCall DirReply → Done
done_of e = record { worker = e.worker; call = e.call; reply = e.reply }

abbrev pub reply_words : List (List ℕ) → DirReply → List (List ℕ)
reply_words names (reply.Ino number) = codes "ino" ∷ decimal number ∷ []
reply_words names reply.Done = codes "done" ∷ []
reply_words names reply.Exists = codes "exists" ∷ []
reply_words names reply.Absent = codes "absent" ∷ []
reply_words names (reply.Number count) = codes "number" ∷ decimal count ∷ []
reply_words names (reply.Name name) = codes "name" ∷ name_at names name ∷ []
reply_words names reply.End = codes "end" ∷ []

-- the call line, ` = ` and the reply
abbrev pub entry_line : List (List ℕ) → Done → List ℕ
entry_line names e = spaced (decimal e.worker ∷ act_words (dir_act names e.call) ++ codes "=" ∷ reply_words names e.reply)

-- `DIR NAME NUMBER`
abbrev pub row_line : List (List ℕ) → Place × ℕ → List ℕ
row_line names row = spaced (decimal row.0.0 ∷ name_at names row.0.1 ∷ decimal row.1 ∷ [])

-- `VERSION NAME`
abbrev pub attach_line : List (List ℕ) → ℕ × ℕ → List ℕ
attach_line policies attached = spaced (decimal attached.0 ∷ name_at policies attached.1 ∷ [])

abbrev pub report_heading : ℕ → Profile → ℕ → ℕ → List ℕ
report_heading version profile workers entries = spaced (codes "syncord-replay" ∷ version_words version profile ++ codes "workers" ∷ decimal workers ∷ codes "entries" ∷ decimal entries ∷ [])

-- a word and a number
abbrev pub counted_line : List ℕ → ℕ → List ℕ
counted_line word n = spaced (word ∷ decimal n ∷ [])

-- what is reported of a replay: the heading, the history, the final names in order, and the attachments
pub record Replay : Type 0 where
  pub version : ℕ
  pub profile : Profile
  pub workers : ℕ
  pub names : List (List ℕ)
  pub policies : List (List ℕ)
  pub history : List Done
  pub rows : List (Place × ℕ)
  pub attaches : List (ℕ × ℕ)

abbrev pub report_lines : Replay → List (List ℕ)
report_lines r =
    report_heading r.version r.profile r.workers (length r.history) ∷ map (entry_line r.names) r.history
    ++ counted_line (codes "final") (length r.rows) ∷ map (row_line r.names) r.rows
    ++ counted_line (codes "attaches") (length r.attaches) ∷ map (attach_line r.policies) r.attaches
    ++ codes "end" ∷ []

abbrev pub report : Replay → List ℕ
report r = flat_map ended (report_lines r)

-- ---- the summary

-- the kinds of replies, in the order of the summary
abbrev pub kind_of : DirReply → ℕ
kind_of (reply.Ino number) = 0
kind_of reply.Done = 1
kind_of reply.Exists = 2
kind_of reply.Absent = 3
kind_of (reply.Number count) = 4
kind_of (reply.Name name) = 5
kind_of reply.End = 6

-- how many replies are of the kind
abbrev pub count_of : ℕ → List DirReply → ℕ
count_of kind replies = count_by (λ r. kind_of r == kind) replies

pub record Bulk : Type 0 where
  pub seed : ℕ
  pub workers : ℕ
  pub calls : ℕ
  pub attaches : ℕ
  pub replies : List DirReply
  pub left : ℕ

abbrev pub totals_line : ℕ → ℕ → ℕ → ℕ → List ℕ
totals_line seed workers calls attaches = spaced (codes "bulk" ∷ codes "seed" ∷ decimal seed ∷ codes "workers" ∷ decimal workers ∷ codes "calls" ∷ decimal calls ∷ codes "attaches" ∷ decimal attaches ∷ [])

-- a word and a number, each behind a blank
abbrev pub paired : List ℕ → ℕ → List ℕ
paired word n = (32 ∷ word) ++ (32 ∷ decimal n)

-- `ino N done N exists N absent N`
abbrev pub changes_text : List DirReply → List ℕ
changes_text replies = codes "ino" ++ (32 ∷ decimal (count_of 0 replies)) ++ paired (codes "done") (count_of 1 replies) ++ paired (codes "exists") (count_of 2 replies) ++ paired (codes "absent") (count_of 3 replies)

-- ` number N name N end N`
abbrev pub looks_text : List DirReply → List ℕ
looks_text replies = paired (codes "number") (count_of 4 replies) ++ paired (codes "name") (count_of 5 replies) ++ paired (codes "end") (count_of 6 replies)

-- the number of replies of each kind
abbrev pub kinds_line : List DirReply → List ℕ
kinds_line replies = changes_text replies ++ looks_text replies

abbrev pub bulk_lines : Bulk → List (List ℕ)
bulk_lines b = totals_line b.seed b.workers b.calls b.attaches ∷ kinds_line b.replies ∷ counted_line (codes "left") b.left ∷ []

abbrev pub bulk_report : Bulk → List ℕ
bulk_report b = flat_map ended (bulk_lines b)
