use Rattle.std.proofs.Common.{◌≡◌, ◌≤◌, ◌+◌, [], drop}
use Rattle.doc_text.specs.Spread.{digits_from}
use Rattle.doc_text.proofs.spread.digits_of.Given as goal

abbrev pub invariant-loop-b : goal.invariant-loop-b
invariant-loop-b l = record {
  rest : digits_from l.digits.items l.line (drop l.b-index l.input) ≡ digits_from [] 1 l.input;
  line : l.line ≤ l.b-index + 1;
}
