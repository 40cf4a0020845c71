use Rattle.std.proofs.Common.{refl, ◌∙◌, subst}
use Rattle.shfl_line.specs.declared.words.Attr.{Attr}
use Rattle.shfl_line.proofs.Rounds.{asks-nothing, asks-on}
use Rattle.shfl_table.specs.Waits.{AsksInRounds, answers_of}
use Rattle.call_pool.proofs.taking.PoolOf+O+Call+Book+Numbered+O.take_all.Goals as goal

pub loop-init : goal.loop-init
loop-init g c = let cell = c.args.pass.now.cell in record {
  own = c.requires;
  number = refl;
  home = refl;
  attr = refl;
  asked = asks-nothing (answers_of cell.attr) cell.decisions cell.decisions (g.Ch.Chooser.told c.args.chooser.now) refl;
}

pub loop-preserved : goal.loop-preserved
loop-preserved g c = let i = c.loop.invariant in let s = c.take.ensures in let told = g.Ch.Chooser.told in let cell = c.args.pass.now.cell in record {
  own = s.pool;
  number = s.number ∙ i.number;
  home = s.home ∙ i.home;
  attr = c.in_default.ensures.some.made.stays.3 ∙ i.attr;
  asked = asks-on (answers_of cell.attr) cell.decisions c.loop.pass.cell.decisions c.take.new.pass.cell.decisions (told c.args.chooser.now) (told c.loop.chooser) (told c.take.new.chooser) i.asked
      (subst (λ (a : Attr). AsksInRounds a c.loop.pass.cell.decisions c.take.new.pass.cell.decisions (told c.loop.chooser) (told c.take.new.chooser)) i.attr s.asked);
}

pub returns-in-loop-clause-asked : goal.returns-in-loop-clause-asked
returns-in-loop-clause-asked g c = let i = c.loop.invariant in let told = g.Ch.Chooser.told in let cell = c.args.pass.now.cell in
    asks-on (answers_of cell.attr) cell.decisions c.loop.pass.cell.decisions c.take.new.pass.cell.decisions (told c.args.chooser.now) (told c.loop.chooser) (told c.take.new.chooser) i.asked
    (subst (λ (a : Attr). AsksInRounds a c.loop.pass.cell.decisions c.take.new.pass.cell.decisions (told c.loop.chooser) (told c.take.new.chooser)) i.attr c.take.ensures.asked)
