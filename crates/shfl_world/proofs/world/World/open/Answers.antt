use Rattle.std.proofs.Common.{◌∙◌, sym, ap, subst, arith}
use Rattle.shfl_core.specs.ShownLine.{shown_line}
use Rattle.shfl_core.specs.Runner.{Lock}
use Rattle.shfl_core.specs.Waiting.{rules}
use Rattle.shfl_laws.specs.Moves.{MayOpen}
use Rattle.shfl_world.specs.LawfulLock.{IsLawfulWorld, terms_of}
use Rattle.shfl_world.proofs.Moving.{opened-world, opened-shows, opened-terms}
use Rattle.shfl_world.proofs.world.World.open.Goals as goal

pub open-requires-clause-idle : goal.open-requires-clause-idle
open-requires-clause-idle g c = (g.form, c.requires.1.1.1.1.1.1)

pub invariant_of-result : goal.invariant_of-result
invariant_of-result g c = let r = c.requires.1.1 in let may : MayOpen (rules c.args.limit g.form) c.args.attrs.now = record { limit = r.1.1.0; some = r.0; few = let few = r.1.0 in omega arith } in
    subst IsLawfulWorld (sym (c.in_ok-plain.ensures g.form r.1.1.1.1)) (opened-world (rules c.args.limit g.form) c.args.attrs.now may r.1.0)

pub returns-clause-opened : goal.returns-clause-opened
returns-clause-opened g c = c.in_ok-plain.ensures g.form c.requires.1.1.1.1.1.1

pub returns-clause-shown : goal.returns-clause-shown
returns-clause-shown g c = let r = c.requires.1.1 in let may : MayOpen (rules c.args.limit g.form) c.args.attrs.now = record { limit = r.1.1.0; some = r.0; few = let few = r.1.0 in omega arith } in
    ap (λ (l : Lock). shown_line l.world) (c.in_ok-plain.ensures g.form r.1.1.1.1) ∙ opened-shows (rules c.args.limit g.form) c.args.attrs.now may

pub returns-clause-terms : goal.returns-clause-terms
returns-clause-terms g c = let r = c.requires.1.1 in let may : MayOpen (rules c.args.limit g.form) c.args.attrs.now = record { limit = r.1.1.0; some = r.0; few = let few = r.1.0 in omega arith } in
    ap terms_of (c.in_ok-plain.ensures g.form r.1.1.1.1) ∙ opened-terms (rules c.args.limit g.form) c.args.attrs.now may
