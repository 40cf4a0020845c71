use Rattle.std.proofs.Common.{◌≡◌, ◌∙◌, ap, subst, sym}
use Rattle.shfl_line.specs.Line.{Line, IsWellFormed}
use Rattle.shfl_core.specs.ShownLine.{shown_line}
use Rattle.shfl_core.specs.Runner.{Lock}
use Rattle.shfl_world.specs.LawfulLock.{IsLawfulLock}
use Rattle.shfl_world.proofs.Facts.{well-formed}
use Rattle.shfl_solo.specs.Rule.{lock}
use Rattle.shfl_solo.proofs.Kept.{lawful}
use Rattle.shfl_solo.proofs.board.SoloBoard.show.Goals as goal

pub show-requires-clause-lawful : goal.show-requires-clause-lawful
show-requires-clause-lawful c = let i = c.self.inside in let l = i.last in
    subst (λ ws. IsLawfulLock (lock l.rules ws l.passes.items)) (sym c.self.invariant.words_are)
    (lawful l.rules l.words.items l.passes.items i.table.shared.key i.table.shared.table_id i.seat.table_id i.seat.id i.seat.me c.self.invariant)

pub returns-clause-shown : goal.returns-clause-shown
returns-clause-shown c = let i = c.self.inside in let l = i.last in
    c.show.ensures ∙ (ap (λ ws. shown_line (record { words = ws; passes = l.passes.items })) c.self.invariant.words_are ∙ ap (λ (z : Lock). shown_line z.world) c.self.view_is)

pub returns-clause-well_formed : goal.returns-clause-well_formed
returns-clause-well_formed c = let i = c.self.inside in let l = i.last in let here : Lock = lock l.rules i.seat.me.0.words l.passes.items in
    let shown : c.show.new.out ≡ shown_line here.world = c.show.ensures ∙ ap (λ ws. shown_line (record { words = ws; passes = l.passes.items })) c.self.invariant.words_are in
    subst (λ (s : Line). IsWellFormed c.args.self.now.rules.limit s) (sym shown) (subst (λ (z : Lock). IsWellFormed z.rules.limit (shown_line here.world)) c.self.view_is
    (well-formed here (lawful l.rules l.words.items l.passes.items i.table.shared.key i.table.shared.table_id i.seat.table_id i.seat.id i.seat.me c.self.invariant)))
