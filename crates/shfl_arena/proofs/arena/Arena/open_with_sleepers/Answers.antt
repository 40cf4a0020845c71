use Rattle.std.proofs.Common.{◌<◌, List, Option, length, sym, ap, ◌∙◌, subst}
use Rattle.atomic_table.specs.Table.{opening}
use Rattle.shfl_core.specs.declared.phase.Rules.{Rules}
use Rattle.shfl_laws.specs.Moves.{MayOpen}
use Rattle.shfl_arena.specs.declared.view.Opening.{Opening}
use Rattle.shfl_arena.specs.ArenaWords.{word_count}
use Rattle.shfl_arena.specs.ArenaTable.{LawfulTable}
use Rattle.shfl_arena.specs.SeatViews.{new_seat}
use Rattle.shfl_arena.proofs.FirstState.{first-state, words-are}
use Rattle.shfl_arena.proofs.arena.Arena.open_with_sleepers.Goals as goal

pub new-requires : goal.new-requires
new-requires g c = let r : Rules = record { limit = c.args.limit; form = c.args.form } in let may : MayOpen r c.args.attrs.now = record { limit = c.requires.limited; some = c.requires.some; few = c.requires.few } in
    subst (λ (z : List (Option g.row.V.Denot)). LawfulTable c.args.shape r (length c.args.attrs.now) (opening c.as_slice.result.now z (new_seat 0))) (sym c.in_ok-slots.ensures)
    (first-state c.args.shape r c.args.attrs.now c.requires.locks.0 may c.args.values.items c.as_slice.result.now (c.as_slice.ensures.value ∙ c.in_ok-words.ensures))

pub deal-requires-clause-words : goal.deal-requires-clause-words
deal-requires-clause-words g c = let r : Rules = record { limit = c.args.limit; form = c.args.form } in let may : MayOpen r c.args.attrs.now = record { limit = c.requires.limited; some = c.requires.some; few = c.requires.few } in
    c.in-Ok.ensures.ok.0 ∙ (ap length (c.as_slice.ensures.value ∙ c.in_ok-words.ensures) ∙ words-are c.args.shape r c.args.attrs.now c.requires.locks.0 may)

pub invariant_of-result : goal.invariant_of-result
invariant_of-result g c = let r : Rules = record { limit = c.args.limit; form = c.args.form } in let may : MayOpen r c.args.attrs.now = record { limit = c.requires.limited; some = c.requires.some; few = c.requires.few } in
    let k = c.in-Ok.ensures.ok.5 in (
      c.in-Ok.ensures.ok.0 ∙ (ap length (c.as_slice.ensures.value ∙ c.in_ok-words.ensures) ∙ (words-are c.args.shape r c.args.attrs.now c.requires.locks.0 may ∙ ap (λ (z : Opening). word_count z.shape z.threads) (sym k))),
      subst (λ (z : Opening). 0 < z.shape.locks) (sym k) c.requires.locks.0,
      subst (λ (z : Opening). 0 < z.threads) (sym k) c.requires.some,
    )
