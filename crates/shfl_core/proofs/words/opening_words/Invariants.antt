use Rattle.std.proofs.Common.{◌≡◌, ◌+◌, ◌*◌, length, vec_len}
use Rattle.shfl_core.proofs.Opening.{opened_to}
use Rattle.shfl_core.proofs.words.opening_words.Given as goal

abbrev pub invariant-loop-attr : goal.invariant-loop-attr
invariant-loop-attr l = record {
  number : l.pass ≡ l.attr-index;
  words : l.list.items ≡ opened_to l.attrs l.attr-index;
  long : vec_len l.list ≡ 10 * length l.attrs + 20;
}
