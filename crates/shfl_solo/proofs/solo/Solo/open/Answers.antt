use Rattle.std.proofs.Common.{refl, length, [], ◌∙◌, sym, ap, arith}
use Rattle.shfl_core.specs.declared.phase.Rules.{Rules}
use Rattle.shfl_laws.specs.Moves.{MayOpen}
use Rattle.shfl_solo.specs.declared.rule.Opening.{Opening}
use Rattle.shfl_solo.specs.Rule.{first_view}
use Rattle.shfl_solo.proofs.Opens.{opens, opens-kept, opens-shown, opens-terms}
use Rattle.shfl_solo.proofs.solo.Solo.open.Goals as goal

pub of_words-requires : goal.of_words-requires
of_words-requires c = let r : Rules = record { limit = c.args.limit; form = c.args.form } in let may : MayOpen r c.args.attrs.now = record { limit = c.requires.limited; some = c.requires.some; few = let few = c.requires.few in omega arith } in
    let v = c.as_slice.ensures.value in
    opens r c.args.attrs.now may c.as_slice.result.now c.in_ok-passes.passes.items (v ∙ c.in_ok-words.ensures) c.in_ok-passes.ensures (record { rules = r; words = c.of.result; passes = c.of-2.result }) refl (ap (λ z. z.items) c.of.ensures ∙ sym v) (ap (λ z. z.items) c.of-2.ensures)

pub invariant_of-result : goal.invariant_of-result
invariant_of-result c = let r : Rules = record { limit = c.args.limit; form = c.args.form } in let may : MayOpen r c.args.attrs.now = record { limit = c.requires.limited; some = c.requires.some; few = let few = c.requires.few in omega arith } in
    let v = c.as_slice.ensures.value in let t = c.in_ok-table.ensures in
    opens-kept r c.args.attrs.now may c.in_ok-words.words.items c.in_ok-passes.passes.items c.in_ok-words.ensures c.in_ok-passes.ensures c.in_ok-table.table.shared.key
    (ap (λ (k : Opening). k.rules) t.5) (ap (λ (k : Opening). k.words.value.items) t.5 ∙ ap (λ z. z.items) c.of.ensures) (ap (λ (k : Opening). k.passes.value.items) t.5 ∙ ap (λ z. z.items) c.of-2.ensures)
    c.requires.few c.in_ok-table.table.shared.table_id c.in_ok-table.seat.table_id c.in_ok-table.seat.id c.in_ok-table.seat.me
    (t.0 ∙ ap length v) t.2 t.3 (t.4 ∙ ap (λ (k : Opening). (first_view k, [])) (sym t.5))

pub returns-clause-shown : goal.returns-clause-shown
returns-clause-shown c = let r : Rules = record { limit = c.args.limit; form = c.args.form } in let may : MayOpen r c.args.attrs.now = record { limit = c.requires.limited; some = c.requires.some; few = let few = c.requires.few in omega arith } in
    let t = c.in_ok-table.ensures in
    opens-shown r c.args.attrs.now may c.in_ok-words.words.items c.in_ok-passes.passes.items c.in_ok-words.ensures c.in_ok-passes.ensures c.in_ok-table.seat.me.0.words
    (ap (λ z. z.0.words) t.4 ∙ ap (λ z. z.items) c.of.ensures)

pub returns-clause-terms : goal.returns-clause-terms
returns-clause-terms c = let r : Rules = record { limit = c.args.limit; form = c.args.form } in let may : MayOpen r c.args.attrs.now = record { limit = c.requires.limited; some = c.requires.some; few = let few = c.requires.few in omega arith } in
    let t = c.in_ok-table.ensures in
    opens-terms r c.args.attrs.now may c.in_ok-words.words.items c.in_ok-passes.passes.items c.in_ok-words.ensures c.in_ok-passes.ensures c.in_ok-table.seat.me.0.words
    (ap (λ z. z.0.words) t.4 ∙ ap (λ z. z.items) c.of.ensures)
