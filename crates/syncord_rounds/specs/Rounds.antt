-- How what policies were told is spelled.
use Rattle.std.specs.Prelude.{ℕ, ◌+◌, Bool, true, false, List, [], ◌∷◌, ◌++◌, map, Option, Some, None, codes}
use Rattle.std.specs.List.{flat_map}
use Rattle.std.specs.Fmt.{decimal}
use Rattle.doc_text.specs.Text.{ended}
use Rattle.doc_text.specs.Words.{spaced}
use Rattle.name_order.specs.Names.{name_at}
use Rattle.shfl_line.specs.declared.words.Attr.{Attr}
use Rattle.shfl_line.specs.declared.choosers.Answer.{Answer}
use Rattle.shfl_line.specs.declared.choosers.Told.{Told}
use Rattle.shfl_line.specs.declared.choosers.Told.TheVariants.{Begun, Answered, Ended}
use Rattle.round_log.specs.declared.log.Note.{Note}

abbrev pub answer_word : Bool → List ℕ
answer_word true = codes "yes"
answer_word false = codes "no"

-- `skip`, or `move SOCKET PRIO CLASS KIND` of a waiter
abbrev pub question_words : Option Attr → List (List ℕ)
question_words None = codes "skip" ∷ []
question_words (Some a) = codes "move" ∷ decimal a.socket ∷ decimal a.prio ∷ decimal a.class ∷ decimal a.kind ∷ []

-- the question, the batch number and the answer
abbrev pub answer_words : Answer → List (List ℕ)
answer_words a = question_words a.waiter ++ decimal a.batch ∷ answer_word a.answer ∷ []

-- `begin VERSION POLICY`, a question with its answer, or `end`
abbrev pub told_words : List (List ℕ) → ℕ → ℕ → Told → List (List ℕ)
told_words policies version which Begun = codes "begin" ∷ decimal version ∷ name_at policies which ∷ []
told_words policies version which (Answered a) = answer_words a
told_words policies version which Ended = codes "end" ∷ []

-- the worker, and what a policy of it was told
abbrev pub note_line : List (List ℕ) → ℕ → Note → List ℕ
note_line policies worker n = spaced (decimal worker ∷ told_words policies n.version n.which n.told)

-- the notes of each worker, from this one on
abbrev pub log_lines : List (List ℕ) → ℕ → List (List Note) → List (List ℕ)
log_lines policies worker [] = []
log_lines policies worker (notes ∷ logs) = map (note_line policies worker) notes ++ log_lines policies (worker + 1) logs

-- what a log has kept
abbrev pub notes_in : Option (List Note) → List Note
notes_in None = []
notes_in (Some notes) = notes

-- `rounds LOCK`
abbrev pub heading_line : List ℕ → List ℕ
heading_line lock = spaced (codes "rounds" ∷ lock ∷ [])

-- the kind of lock that ran, and all that the policies of its workers were told
abbrev pub rounds_lines : List (List ℕ) → List ℕ → List (List Note) → List (List ℕ)
rounds_lines policies lock logs = heading_line lock ∷ log_lines policies 0 logs ++ codes "end" ∷ []

abbrev pub rounds_text : List (List ℕ) → List ℕ → List (List Note) → List ℕ
rounds_text policies lock logs = flat_map ended (rounds_lines policies lock logs)
