use Rattle.std.proofs.Common.{subst}
use Rattle.shfl_line.specs.Line.{IsWellFormed}
use Rattle.shfl_core.specs.ShownLine.{shown_line}
use Rattle.shfl_core.specs.Runner.{Lock}
use Rattle.shfl_laws.specs.Headline.{Headline}
use Rattle.shfl_world.specs.LawfulLock.{RoundsAreShort, ShowsItsWorld}
use Rattle.shfl_world.proofs.Facts.{well-formed, plainly, word-for-word, rounds-end}
use Rattle.shfl_world.proofs.world.World.is_lawful.Goals as goal

pub returns-clause-well_formed : goal.returns-clause-well_formed
returns-clause-well_formed g c = subst (λ (l : Lock). IsWellFormed l.rules.limit (shown_line l.world)) c.self.view_is (well-formed c.self.inside.plain c.self.invariant.lawful)

pub returns-clause-headline : goal.returns-clause-headline
returns-clause-headline g c = subst (λ (l : Lock). Headline l.rules.limit l.world (shown_line l.world).line (shown_line l.world).hand) c.self.view_is (plainly c.self.inside.plain c.self.invariant.lawful)

pub returns-clause-world : goal.returns-clause-world
returns-clause-world g c = subst ShowsItsWorld c.self.view_is (word-for-word c.self.inside.plain c.self.invariant.lawful)

pub returns-clause-rounds : goal.returns-clause-rounds
returns-clause-rounds g c = subst RoundsAreShort c.self.view_is (rounds-end c.self.inside.plain c.self.invariant.lawful)
