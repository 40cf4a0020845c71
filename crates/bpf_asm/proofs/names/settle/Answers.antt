use Rattle.std.proofs.Common.{List, length, subst}
use Rattle.bpf_asm.specs.declared.names.Declared.{Declared}
use Rattle.bpf_asm.specs.Names.{AreInOrder, IsLowest}
use Rattle.bpf_asm.proofs.Settling.{repeat_is_first, are_marks, keyed_in_order}
use Rattle.bpf_asm.proofs.names.settle.Goals as goal

pub returns-clause-order : goal.returns-clause-order
returns-clause-order c = record {
  sorted = c.sort_unstable.ensures.sorted;
  keyed = keyed_in_order c.requires.0 c.args.names.now.items c.sort_unstable.new.self.items c.requires.1 c.sort_unstable.ensures.permutation;
}

pub returns-clause-repeat : goal.returns-clause-repeat
returns-clause-repeat c =
    let order : AreInOrder c.sort_unstable.new.self.items = record {
      sorted = c.sort_unstable.ensures.sorted;
      keyed = keyed_in_order c.requires.0 c.args.names.now.items c.sort_unstable.new.self.items c.requires.1 c.sort_unstable.ensures.permutation;
    } in
    repeat_is_first c.requires.0 c.args.names.now.items c.sort_unstable.new.self.items c.requires.1 c.sort_unstable.ensures.permutation order c.lowest_repeat.result
    (subst (λ (ds : List Declared). IsLowest ds (length ds) c.lowest_repeat.result) c.as_slice.ensures.value c.lowest_repeat.ensures)

pub returns-clause-marks : goal.returns-clause-marks
returns-clause-marks c =
    let order : AreInOrder c.sort_unstable.new.self.items = record {
      sorted = c.sort_unstable.ensures.sorted;
      keyed = keyed_in_order c.requires.0 c.args.names.now.items c.sort_unstable.new.self.items c.requires.1 c.sort_unstable.ensures.permutation;
    } in
    are_marks c.requires.0 c.args.names.now.items c.sort_unstable.new.self.items c.requires.1 c.sort_unstable.ensures.permutation order
