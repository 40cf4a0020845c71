use Rattle.std.proofs.Common.{ℕ, sym, ap, ◌∙◌, subst}
use Rattle.std.specs.Prelude.{Option}
use Rattle.atomic_table.specs.Table.{Me}
use Rattle.shfl_line.specs.declared.events.Mode.{Mode}
use Rattle.shfl_core.specs.declared.phase.Rules.{Rules}
use Rattle.shfl_core.specs.declared.words.Access.{Access}
use Rattle.shfl_core.specs.declared.words.Access.TheVariants.{Load}
use Rattle.shfl_core.specs.declared.words.Word.TheVariants.{Lock}
use Rattle.shfl_core.specs.Waiting.{MayUse}
use Rattle.shfl_arena.specs.declared.shape.Shape.{Shape}
use Rattle.shfl_arena.specs.declared.view.SeatView.{SeatView}
use Rattle.shfl_arena.specs.ArenaTable.{LawfulTable}
use Rattle.shfl_arena.specs.ArenaWords.{place}
use Rattle.shfl_arena.specs.Operations.{LockTerms, PermitsAt, attempt_play, look_play}
use Rattle.shfl_arena.proofs.SeatPermits.{attempt-permits, attempt-site, look-permits}
use Rattle.shfl_arena.proofs.attempting.attempt_once.Goals as goal

pub perform_at-word-requires-clause-permits : goal.perform_at-word-requires-clause-permits
perform_at-word-requires-clause-permits g c = let a = c.args in let k = a.shared.now.key in let m = c.requires.made in
    subst (λ (z : Shape × Rules × LockTerms × ℕ × ℕ). PermitsAt (LawfulTable z.0 z.1 k.threads) a.shared.now.table_id.slots a.seat.now.id a.seat.now.me (look_play z.2 z.3) z.4 (Load Lock))
    (λ j. (sym c.requires.table.2 j, sym c.requires.table.1 j, sym m.0 j, sym m.1 j, sym c.requires.at j))
    (look-permits a.shape a.rules k.threads a.lock c.requires.lock a.shared.now.table_id.slots a.seat.now.id a.seat.now.me c.requires.one c.requires.rests c.requires.free (subst (MayUse a.rules.form) c.in-Write.is c.requires.mode))

pub perform_at-requires-clause-permits : goal.perform_at-requires-clause-permits
perform_at-requires-clause-permits g c = let a = c.args in let k = a.shared.now.key in let m = c.requires.made in let look = c.perform_at-word in let same = look.ensures.play.free c.if-word-ne0.false in
    subst (λ (z : Shape × Rules × LockTerms × ℕ × Mode × ℕ × Access × ℕ × Me (Option g.row.V.Denot) SeatView). PermitsAt (LawfulTable {V = g.row.V.Denot} z.0 z.1 k.threads) a.shared.now.table_id.slots z.7 z.8 (attempt_play z.2 z.3 z.4) z.5 z.6)
    (λ j. (sym c.requires.table.2 j, sym c.requires.table.1 j, sym m.0 j, sym m.1 j, sym m.2 j, (ap (place a.shape a.lock) (attempt-site a.mode) ∙ sym c.requires.at) j, sym c.attempt_access-access.ensures j, sym look.ensures.seat.1 j, sym same j))
    (attempt-permits a.shape a.rules k.threads a.lock c.requires.lock a.shared.now.table_id.slots a.seat.now.id a.seat.now.me c.requires.one a.mode c.requires.rests c.requires.free c.requires.mode)

pub perform_at-requires-in-Read-clause-permits : goal.perform_at-requires-in-Read-clause-permits
perform_at-requires-in-Read-clause-permits g c = let a = c.args in let k = a.shared.now.key in let m = c.requires.made in
    subst (λ (z : Shape × Rules × LockTerms × ℕ × Mode × ℕ × Access). PermitsAt (LawfulTable z.0 z.1 k.threads) a.shared.now.table_id.slots a.seat.now.id a.seat.now.me (attempt_play z.2 z.3 z.4) z.5 z.6)
    (λ j. (sym c.requires.table.2 j, sym c.requires.table.1 j, sym m.0 j, sym m.1 j, sym m.2 j, (ap (place a.shape a.lock) (attempt-site a.mode) ∙ sym c.requires.at) j, sym c.attempt_access-access.ensures j))
    (attempt-permits a.shape a.rules k.threads a.lock c.requires.lock a.shared.now.table_id.slots a.seat.now.id a.seat.now.me c.requires.one a.mode c.requires.rests c.requires.free c.requires.mode)
