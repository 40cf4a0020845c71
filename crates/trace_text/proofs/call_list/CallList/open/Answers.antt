use Rattle.std.proofs.Common.{refl}
use Rattle.trace_text.proofs.Gathering.{none_listed}
use Rattle.trace_text.proofs.call_list.CallList.open.Goals as goal

pub returns-clause-list : goal.returns-clause-list
returns-clause-list c = λ workers policies. none_listed workers policies _ c.in_ok-nobody.ensures c.in_ok-with_capacity.ensures.items refl
