use Rattle.std.proofs.Common.{rules, arith, ◌≡◌, ◌≤◌, refl, sym, ap, ◌∙◌, subst, length, map, List, Some, Option, vec_len, vec_capacity}
use Rattle.atomic_table.specs.Table.{opening}
use Rattle.shfl_core.specs.declared.phase.Rules.{Rules}
use Rattle.shfl_core.specs.Words.{wide}
use Rattle.shfl_laws.specs.Moves.{MayOpen, told_terms}
use Rattle.shfl_table.specs.BoardRule.{BoardRule}
use Rattle.shfl_table.specs.Views.{first_view}
use Rattle.shfl_table.specs.Histories.{initial_state_of}
use Rattle.shfl_table.specs.declared.view.Opening.{Opening}
use Rattle.shfl_core.specs.Worlds.{opening_words}
use Rattle.shfl_core.specs.Lawful.{Terms}
use Rattle.shfl_table.specs.PassModel.{IsIdleAt}
use Rattle.std.proofs.lemmas.Option.{get_or_from_slice_get}
use Rattle.shfl_table.proofs.First.{opens-first, words-are, count-is, terms-are}
use Rattle.std.proofs.lemmas.List.{length-map}
use Rattle.shfl_table.proofs.opening.open_with_sleepers.Goals as goal

pub new-requires : goal.new-requires
new-requires g c = let r : Rules = record { limit = c.args.limit; form = c.args.form } in let may : MayOpen r c.args.attrs.now = record { limit = c.requires.limited; some = c.requires.some; few = let few = c.requires.few in omega arith } in let V : Type 0 = g.row.V.Denot in
    let initial_state = g.V.Kept.initial_state in let v = c.as_slice.ensures.value in
    let items : c.in_ok-slots.slots.items ≡ map Some c.args.values.items = c.in_ok-slots.ensures in
    let same : c.of-2.result.value.items ≡ c.args.values.items = ap (λ z. z.items) c.of-2.ensures in
    let words : c.of.result.value.items ≡ c.as_slice.result.now = ap (λ z. z.items) c.of.ensures ∙ sym v in
    subst (λ (z : List (Option g.row.V.Denot) × List g.row.V.Denot × List _). BoardRule initial_state g.V.Kept.history (told_terms r (length c.args.attrs.now) z.2) (initial_state_of initial_state z.1) (opening c.as_slice.result.now z.0 (first_view (told_terms r (length c.args.attrs.now) z.2).attrs (initial_state_of initial_state z.1)))) (λ i. (sym items i, sym same i, sym words i))
    (opens-first r c.args.attrs.now may c.as_slice.result.now (v ∙ c.in_ok-words.ensures) initial_state g.V.Kept.history (initial_state_of initial_state c.args.values.items) c.args.values.items c.requires.values)

pub deal-requires-clause-words : goal.deal-requires-clause-words
deal-requires-clause-words g c = let r : Rules = record { limit = c.args.limit; form = c.args.form } in let may : MayOpen r c.args.attrs.now = record { limit = c.requires.limited; some = c.requires.some; few = let few = c.requires.few in omega arith } in
    c.in-Ok.ensures.ok.0 ∙ words-are r c.args.attrs.now may c.as_slice.result.now (c.as_slice.ensures.value ∙ c.in_ok-words.ensures)

pub invariant_of-result : goal.invariant_of-result
invariant_of-result g c = let r : Rules = record { limit = c.args.limit; form = c.args.form } in let may : MayOpen r c.args.attrs.now = record { limit = c.requires.limited; some = c.requires.some; few = let few = c.requires.few in omega arith } in
    let key = c.in-Ok.table.shared.key in let o = c.in-Ok.ensures.ok in
    let slots : c.in-Ok.table.shared.table_id.slots ≡ vec_len c.args.values = o.1 ∙ (ap length c.in_ok-slots.ensures ∙ (length-map c.args.values.items Some ∙ (let e : length c.args.values.items ≡ vec_len c.args.values = search rules in e))) in
    let room : c.in-Ok.table.shared.table_id.slots ≤ vec_capacity c.in_ok-room.room = (let e = c.in_ok-room.ensures.capacity in let l = c.len.ensures in omega arith) in (
      o.0 ∙ (words-are r c.args.attrs.now may c.as_slice.result.now (c.as_slice.ensures.value ∙ c.in_ok-words.ensures) ∙ (ap wide (ap (λ (k : Opening g.row.V.Denot). k.count) (sym o.5)) ∙ ap wide (sym (count-is key.rules key.count key.words.value.items)))),
      c.in_ok-room.ensures.items,
      room,
    )

pub returns-clause-attrs : goal.returns-clause-attrs
returns-clause-attrs g c = let r : Rules = record { limit = c.args.limit; form = c.args.form } in let may : MayOpen r c.args.attrs.now = record { limit = c.requires.limited; some = c.requires.some; few = let few = c.requires.few in omega arith } in
    let laid : c.of.result.value.items ≡ opening_words c.args.attrs.now = ap (λ z. z.items) c.of.ensures ∙ c.in_ok-words.ensures in
    ap (λ (k : Opening g.row.V.Denot). (told_terms k.rules k.count k.words.value.items).attrs) c.in-Ok.ensures.ok.5
    ∙ ap (λ (t : Terms). t.attrs) (terms-are r c.args.attrs.now may c.of.result.value.items laid)

pub returns-clause-own : goal.returns-clause-own
returns-clause-own g c k d h = let key = c.in-Ok.table.shared.key in let o = c.in-Ok.ensures.ok in let e = c.in_ok-passes.ensures in
    let rules : Rules = record { limit = c.args.limit; form = c.args.form } in
    let same : rules ≡ key.rules = ap (λ (z : Opening g.row.V.Denot). z.rules) (sym o.5) in
    let attrs = (told_terms key.rules key.count key.words.value.items).attrs in
    let ok = c.in_ok-passes.passes.ok.0 in
    let at = e.1 k (omega arith) in
    subst (IsIdleAt (record { table = c.in-Ok.table.shared.table_id; rules = key.rules; attrs = attrs })) (sym (get_or_from_slice_get c.in_ok-passes.passes.items k _ d at))
    ((λ j. record { table = c.in-Ok.table.shared.table_id; rules = same j; attrs = attrs }), refl, refl)
