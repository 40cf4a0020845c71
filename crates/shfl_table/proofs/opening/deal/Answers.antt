use Rattle.std.proofs.Common.{rules, arith, ◌≡◌, ℕ, sym, ap, ◌∙◌, ◌+◌, ◌<◌, ◌≤◌, ◌-◌, [], subst, vec_len, vec_capacity, length}
use Rattle.shfl_core.specs.Words.{wide}
use Rattle.shfl_laws.specs.Moves.{told_terms}
use Rattle.shfl_table.specs.PassModel.{BoardId, fresh_pass}
use Rattle.shfl_table.specs.Views.{number, new_view, not_last}
use Rattle.shfl_table.specs.Histories.{initial_state_of}
use Rattle.shfl_table.specs.declared.view.View.{View}
use Rattle.shfl_table.proofs.Ends.{splits-again, pushed}
use Rattle.shfl_table.proofs.opening.deal.Goals as goal

pub split_seat-next-requires : goal.split_seat-next-requires
split_seat-next-requires g c = let i = c.loop-k.invariant in let is = ap (λ m. m.0) i.3 in let k = c.args.shared.now.key in
    let h : vec_len c.loop-k.passes + 1 < c.args.count = (let a = i.0 in let b = c.loop-k-test.true in omega arith) in
    let w : c.args.shared.now.table_id.words ≡ wide c.args.count = c.requires.words in (
      i.2,
      omega arith,
      splits-again g.V.Kept.initial_state g.V.Kept.history k.rules k.count k.words.value.items (initial_state_of g.V.Kept.initial_state k.values.value.items) _ (vec_len c.loop-k.passes) _ is (subst (λ n. vec_len c.loop-k.passes + 1 < n) c.requires.count.1 h),
    )

pub loop-k-preserved : goal.loop-k-preserved
loop-k-preserved g c = let i = c.loop-k.invariant in let d = c.split_seat-next.ensures in let p = c.push_reserved.ensures in let is = ap (λ m. m.0) i.3 in let initial_state = initial_state_of g.V.Kept.initial_state c.args.shared.now.key.values.value.items in
    let attrs = (told_terms c.args.shared.now.key.rules c.args.shared.now.key.count c.args.shared.now.key.words.value.items).attrs in let board : BoardId = record { table = c.args.shared.now.table_id; rules = c.args.rules; attrs = attrs } in
    let old : vec_len c.loop-k.passes ≡ length c.loop-k.passes.items = search rules in let new : vec_len c.push_reserved.new.self ≡ length c.push_reserved.new.self.items = search rules in
    let len : vec_len c.push_reserved.new.self ≡ vec_len c.loop-k.passes + 1 = p.len in let was = (λ (k : ℕ). λ (h : k < length c.loop-k.passes.items). i.4 k (subst (λ n. k < n) (sym old) h)) in
    let here = c.seated.ensures ∙ (λ j. fresh_pass ((ap (λ (m : View). m.initial_state) (ap (λ m. m.0) d.2 ∙ ap not_last is)) j) (record { table = (d.0 ∙ i.2) j; rules = c.args.rules; attrs = (ap (λ (m : View). m.attrs) (ap (λ m. m.0) d.2 ∙ ap not_last is)) j }) (c.loop-k.k - 1)) in
    let each = pushed initial_state board (c.loop-k.k - 1) c.seated.result c.loop-k.passes.items c.push_reserved.new.self.items p.items here (let a = i.0 in omega arith) was in
    let count : c.args.count ≤ vec_capacity c.push_reserved.new.self = (let a = i.1 in let b = p.capacity in search rules) in (
      (let a = i.0 in omega arith),
      count,
      d.3 ∙ i.2,
      d.4 ∙ (λ j. (new_view (ap (λ (v : View). v.attrs) is j) (ap (λ (v : View). v.initial_state) is j) ((ap (λ (v : View). number v + 1) is ∙ sym len) j), [])),
      (λ k h. each k (subst (λ n. k < n) new h)),
    )

pub returns : goal.returns
returns g c = let i = c.loop-k.invariant in let p = c.push_reserved-2.ensures in let is = ap (λ m. m.0) i.3 in let initial_state = initial_state_of g.V.Kept.initial_state c.args.shared.now.key.values.value.items in
    let attrs = (told_terms c.args.shared.now.key.rules c.args.shared.now.key.count c.args.shared.now.key.words.value.items).attrs in let board : BoardId = record { table = c.args.shared.now.table_id; rules = c.args.rules; attrs = attrs } in
    let old : vec_len c.loop-k.passes ≡ length c.loop-k.passes.items = search rules in let new : vec_len c.push_reserved-2.new.self ≡ length c.push_reserved-2.new.self.items = search rules in
    let len : vec_len c.push_reserved-2.new.self ≡ vec_len c.loop-k.passes + 1 = p.len in let was = (λ (k : ℕ). λ (h : k < length c.loop-k.passes.items). i.4 k (subst (λ n. k < n) (sym old) h)) in
    let here = c.seated-2.ensures ∙ (λ j. fresh_pass ((ap (λ (m : View). m.initial_state) is) j) (record { table = i.2 j; rules = c.args.rules; attrs = (ap (λ (m : View). m.attrs) is) j }) (c.args.count - 1)) in
    let end : c.loop-k.k ≤ c.args.count = search rules in (
      (let a = i.0 in let b = c.loop-k-test.false in omega arith),
      λ k h. pushed initial_state board (c.args.count - 1) c.seated-2.result c.loop-k.passes.items c.push_reserved-2.new.self.items p.items here (let a = i.0 in let b = c.loop-k-test.false in omega arith) was k (subst (λ n. k < n) new h),
    )
