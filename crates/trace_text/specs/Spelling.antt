-- How a trace is written.
use Rattle.std.specs.Prelude.{ℕ, List, [], ◌∷◌, ◌++◌, map, Some, None, codes}
use Rattle.std.specs.List.{flat_map}
use Rattle.std.specs.Fmt.{decimal}
use Rattle.shfl_line.specs.declared.words.Attr.{Attr}
use Rattle.doc_text.specs.Text.{ended}
use Rattle.doc_text.specs.Words.{spaced}
use Rattle.policy_text.specs.Attributes.{attr_line}
use Rattle.policy_text.specs.Headings.{heading_lines}
use Rattle.policy_text.specs.Programs.{program_word}
use Rattle.trace_text.specs.Document.{Act, make, drop_name, rename, find, count, next, attach, CallLine, PolicyLine, Document}

abbrev pub worker_line : Attr → List ℕ
worker_line a = attr_line (codes "worker") a

abbrev pub policy_line : PolicyLine → List ℕ
policy_line p = spaced (codes "policy" ∷ p.name ∷ program_word p.source.should ∷ program_word p.source.skip ∷ [])

abbrev pub act_words : Act → List (List ℕ)
act_words (make dir name) = codes "make" ∷ decimal dir ∷ name ∷ []
act_words (drop_name dir name) = codes "drop" ∷ decimal dir ∷ name ∷ []
act_words (rename dir name to_dir to_name) = codes "rename" ∷ decimal dir ∷ name ∷ decimal to_dir ∷ to_name ∷ []
act_words (find dir name) = codes "find" ∷ decimal dir ∷ name ∷ []
act_words (count dir) = codes "count" ∷ decimal dir ∷ []
act_words (next dir None) = codes "next" ∷ decimal dir ∷ []
act_words (next dir (Some name)) = codes "next" ∷ decimal dir ∷ name ∷ []
act_words (attach name) = codes "attach" ∷ name ∷ []

abbrev pub call_line : CallLine → List ℕ
call_line c = spaced (decimal c.worker ∷ act_words c.act)

-- the lines of a trace, with these of its policies
abbrev pub lines_with : Document → List (List ℕ) → List (List ℕ)
lines_with d policies = heading_lines (codes "syncord-trace") d.version d.profile ++ map worker_line d.workers ++ policies ++ codes "calls" ∷ map call_line d.calls

abbrev pub trace_lines : Document → List (List ℕ)
trace_lines d = lines_with d (map policy_line d.policies)

-- the text of a trace, with digits in lower case
abbrev pub spelling : Document → List ℕ
spelling d = flat_map ended (trace_lines d)
