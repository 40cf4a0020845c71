use Rattle.std.proofs.Common.{◌≡◌, ◌≤◌, length, map, take, vec_len}
use Rattle.std.specs.Prelude.{vec_capacity}
use Rattle.shfl_line.specs.Words.{attr_word}
use Rattle.shfl_ticket.proofs.opening.attrs_of.Given as goal

abbrev pub invariant-loop-word : goal.invariant-loop-word
invariant-loop-word l = (vec_len l.attrs ≡ l.word-index) × (map attr_word l.attrs.items ≡ take l.word-index l.words) × (length l.words ≤ vec_capacity l.attrs)
