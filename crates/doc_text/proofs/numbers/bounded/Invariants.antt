use Rattle.std.proofs.Common.{◌≡◌, ◌≤◌, drop}
use Rattle.std.specs.Str.{all_ascii_digits}
use Rattle.doc_text.specs.Numbers.{value_on}
use Rattle.doc_text.proofs.numbers.bounded.Given as goal

abbrev pub invariant-loop-b : goal.invariant-loop-b
invariant-loop-b l = record {
  digits : all_ascii_digits (drop l.b-index l.word) ≡ all_ascii_digits l.word;
  rest : value_on l.value (drop l.b-index l.word) ≡ value_on 0 l.word;
  within : l.value ≤ l.most;
}
