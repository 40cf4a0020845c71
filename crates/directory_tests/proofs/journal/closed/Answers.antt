use Rattle.std.proofs.Common.{arith, ◌∙◌, ap, sym, refl, inl, subst, length}
use Rattle.directory_tests.specs.declared.journal.Line.{Line}
use Rattle.shared_journal.specs.declared.view.Own.{Own}
use Rattle.shared_journal.specs.Entries.{IsAmong}
use Rattle.shared_journal.specs.Models.{ClosingModel, as_own}
use Rattle.directory_tests.proofs.journal.closed.Goals as goal

pub finish-requires : goal.finish-requires
finish-requires c = record {
  all = λ k h. let own : Own Line = as_own (λ e. e.worker) c.args.pass in let n = c.requires.number in
      let one = ap (λ (z : ClosingModel Line). length z.table.allowed) c.new.ensures ∙ c.requires.one in
      (own, subst (IsAmong own) (sym (ap (λ (z : ClosingModel Line). z.numbers) c.new.ensures)) (inl refl), omega arith);
}
