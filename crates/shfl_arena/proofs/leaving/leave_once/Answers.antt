use Rattle.std.proofs.Common.{ℕ, Bool, false, refl, sym, ap, ◌∙◌, subst, inl}
use Rattle.atomic_table.specs.Seated.{TableId}
use Rattle.shfl_core.specs.declared.phase.PassState.{PassState}
use Rattle.shfl_core.specs.declared.phase.Rules.{Rules}
use Rattle.shfl_core.specs.declared.words.Access.{Access}
use Rattle.shfl_core.specs.Take.{take}
use Rattle.shfl_arena.specs.declared.shape.Shape.{Shape}
use Rattle.shfl_arena.specs.ArenaTable.{LawfulTable}
use Rattle.shfl_arena.specs.ArenaWords.{place}
use Rattle.shfl_arena.specs.Operations.{LockTerms, PermitsAt, step_play}
use Rattle.shfl_arena.specs.SeatModels.{leaving}
use Rattle.shfl_arena.specs.ValueMoves.{MayGive, writes}
use Rattle.shfl_arena.proofs.LastSteps.{leaving-seen, leaving-gives}
use Rattle.shfl_arena.proofs.GivesBack.{gives-back, gives-site}
use Rattle.shfl_arena.proofs.SeatPermits.{step-permits}
use Rattle.shfl_arena.proofs.leaving.leave_once.Goals as goal

pub perform_at-requires-clause-permits : goal.perform_at-requires-clause-permits
perform_at-requires-clause-permits g c = let a = c.args in let key = a.shared.now.key in let m = c.requires.made in let me = a.seat.now.me in let k = me.0.number in
    subst (λ (z : Shape × Rules × LockTerms × PassState × Bool × ℕ × Access). PermitsAt (LawfulTable z.0 z.1 key.threads) a.shared.now.table_id.slots a.seat.now.id me (step_play z.2 z.3 z.4) z.5 z.6)
    (λ j. (sym c.requires.table.2 j, sym c.requires.table.1 j, sym m.0 j, sym m.1 j, sym m.2 j, (ap (place a.shape a.lock) (gives-site a.mode) ∙ sym c.requires.at) j, sym c.leave_access-access.ensures j))
    (gives-back a.shape a.rules key.threads a.lock c.requires.lock a.shared.now.table_id.slots a.seat.now.id me c.requires.one c.requires.rests a.mode c.requires.holds
    (step-permits a.shape a.rules key.threads a.lock c.requires.lock a.shared.now.table_id.slots a.seat.now.id me c.requires.one (leaving k a.mode) false refl
    (leaving-seen a.rules.form a.lock k me.0.thread c.requires.rests a.mode c.requires.holds) (inl c.requires.rests)
    (subst (λ n. (i : ℕ) → MayGive n a.lock (writes (leaving k a.mode)) (writes (take a.rules k (leaving k a.mode) i false)) me.1) (ap (λ (z : TableId). z.slots) c.requires.table.0)
    (λ i. leaving-gives a.seat.now.table_id.slots a.lock k (writes (take a.rules k (leaving k a.mode) i false)) me.1 a.mode c.requires.value))))
