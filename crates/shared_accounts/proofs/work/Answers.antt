use Rattle.std.proofs.Common.{map, refl, sym, ap, ◌∙◌, arith}
use Rattle.shared_accounts.specs.Accounts.{call_numbers}
use Rattle.shared_accounts.proofs.LongerRounds.{no_rounds, round_made}
use Rattle.shared_accounts.proofs.work.Goals as goal

pub loop-round-init : goal.loop-round-init
loop-round-init g c = record {
  cell = refl;
  opening = refl;
  number = refl;
  left = let enough = c.requires.ready.left in omega arith;
  made = c.requires.ready.none_made ∙ ap (map call_numbers) (sym (no_rounds _));
}

pub loop-round-preserved : goal.loop-round-preserved
loop-round-preserved g c =
    let v = c.loop-round.invariant in let w = c.write.ensures.made.stays in let r = c.read.ensures.made.stays in
    record {
      cell = r.cell ∙ w.cell ∙ v.cell;
      opening = r.opening ∙ w.opening ∙ v.opening;
      number = r.number_is ∙ w.number_is ∙ v.number;
      left = let before = v.left in let one = w.left in let two = r.left in omega (arith, before, one, two);
      made = round_made c.loop-round.pass c.write.new.pass c.read.new.pass _ c.loop-round._round _ _ refl refl v.made c.write.ensures.last c.read.ensures.last;
    }
