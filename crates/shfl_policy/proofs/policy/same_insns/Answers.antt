use Rattle.std.proofs.lemmas.Slice.Eq.{slice_eq-Decides}
use Rattle.shfl_policy.proofs.SameInsns.{same_insn}
use Rattle.shfl_policy.proofs.policy.same_insns.Goals as goal

pub returns : goal.returns
returns c = slice_eq-Decides same_insn _ _ _ c.eq.ensures
