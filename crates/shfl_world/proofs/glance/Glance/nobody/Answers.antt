use Rattle.std.proofs.Common.{refl}
use Rattle.std.proofs.lemmas.List.{get_or-replicate}
use Rattle.shfl_world.proofs.glance.Glance.nobody.Goals as goal

pub returns : goal.returns
returns c = λ w. record {
  granter = refl;
  fore = refl;
  called = refl;
  relinker = refl;
  walker = refl;
  flagged = refl;
  linkers = λ a h. get_or-replicate 64 a 0 0 h;
}
