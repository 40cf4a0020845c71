use Rattle.std.proofs.Common.{◌≡◌, drop}
use Rattle.std.specs.List.{list_all}
use Rattle.trace_text.specs.Lines.{is_name_byte}
use Rattle.trace_text.proofs.policies.is_policy_name.Given as goal

abbrev pub invariant-loop-b : goal.invariant-loop-b
invariant-loop-b l = list_all is_name_byte (drop l.b-index l.word) ≡ list_all is_name_byte l.word
