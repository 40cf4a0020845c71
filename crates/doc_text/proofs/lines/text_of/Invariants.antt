use Rattle.std.proofs.Common.{◌≡◌, ℕ, ◌<◌, get_or, true}
use Rattle.doc_text.specs.Text.{is_plain}
use Rattle.doc_text.proofs.lines.text_of.Given as goal

abbrev pub invariant-loop-b : goal.invariant-loop-b
invariant-loop-b l = (k : ℕ) → k < l.b-index → is_plain (get_or l.front k 0) ≡ true
