use Rattle.std.proofs.Common.{rules, arith, ◌≡◌, ℕ, sym, ap, ◌∙◌, ◌+◌, ◌<◌, ◌≤◌, ◌-◌, [], subst, vec_len, vec_capacity, length}
use Rattle.shfl_arena.specs.declared.view.SeatView.{SeatView}
use Rattle.shfl_arena.specs.SeatModels.{ArenaId, fresh_seat}
use Rattle.shfl_arena.specs.SeatViews.{new_seat}
use Rattle.shfl_arena.proofs.Splits.{splits, pushed}
use Rattle.shfl_arena.proofs.opening.deal.Goals as goal

pub split_seat-next-requires : goal.split_seat-next-requires
split_seat-next-requires g c = let i = c.loop-k.invariant in let is = ap (λ m. m.0) i.3 in let k = c.args.shared.now.key in
    let h : vec_len c.loop-k.seats + 1 < c.args.threads = (let a = i.0 in let b = c.loop-k-test.true in omega arith) in (
      i.2,
      (let w = c.requires.words in let t = c.requires.threads.0 in omega arith),
      splits k.shape k.rules k.threads _ _ (ap (λ (z : SeatView). z.seats) is) (ap (λ (z : SeatView). z.last) is) (subst (λ n. n + 1 < k.threads) (sym (ap (λ (z : SeatView). z.number) is)) (subst (λ n. vec_len c.loop-k.seats + 1 < n) c.requires.threads.1 h)),
    )

pub loop-k-preserved : goal.loop-k-preserved
loop-k-preserved g c = let i = c.loop-k.invariant in let d = c.split_seat-next.ensures in let p = c.push_reserved.ensures in let is = ap (λ m. m.0) i.3 in
    let id : ArenaId = record { table = c.args.shared.now.table_id; rules = c.args.rules; shape = c.args.shape } in
    let old : vec_len c.loop-k.seats ≡ length c.loop-k.seats.items = search rules in let new : vec_len c.push_reserved.new.self ≡ length c.push_reserved.new.self.items = search rules in
    let len : vec_len c.push_reserved.new.self ≡ vec_len c.loop-k.seats + 1 = p.len in let was = (λ (k : ℕ). λ (h : k < length c.loop-k.seats.items). i.4 k (subst (λ n. k < n) (sym old) h)) in
    let here = c.seated.ensures ∙ (λ j. fresh_seat (record { table = (d.0 ∙ i.2) j; rules = c.args.rules; shape = c.args.shape }) (c.loop-k.k - 1)) in
    let each = pushed (fresh_seat id) (c.loop-k.k - 1) c.seated.result c.loop-k.seats.items c.push_reserved.new.self.items p.items here (let a = i.0 in omega arith) was in
    let count : c.args.threads ≤ vec_capacity c.push_reserved.new.self = (let a = i.1 in let b = p.capacity in search rules) in (
      (let a = i.0 in omega arith),
      count,
      d.3 ∙ i.2,
      d.4 ∙ (λ j. (new_seat ((ap (λ (v : SeatView). v.number + 1) is ∙ sym len) j), [])),
      (λ k h. each k (subst (λ n. k < n) new h)),
    )

pub returns : goal.returns
returns g c = let i = c.loop-k.invariant in let p = c.push_reserved-2.ensures in let is = ap (λ m. m.0) i.3 in
    let id : ArenaId = record { table = c.args.shared.now.table_id; rules = c.args.rules; shape = c.args.shape } in
    let old : vec_len c.loop-k.seats ≡ length c.loop-k.seats.items = search rules in let new : vec_len c.push_reserved-2.new.self ≡ length c.push_reserved-2.new.self.items = search rules in
    let len : vec_len c.push_reserved-2.new.self ≡ vec_len c.loop-k.seats + 1 = p.len in let was = (λ (k : ℕ). λ (h : k < length c.loop-k.seats.items). i.4 k (subst (λ n. k < n) (sym old) h)) in
    let here = c.seated-2.ensures ∙ (λ j. fresh_seat (record { table = i.2 j; rules = c.args.rules; shape = c.args.shape }) (c.args.threads - 1)) in
    let end : c.loop-k.k ≤ c.args.threads = search rules in (
      (let a = i.0 in let b = c.loop-k-test.false in omega arith),
      λ k h. pushed (fresh_seat id) (c.args.threads - 1) c.seated-2.result c.loop-k.seats.items c.push_reserved-2.new.self.items p.items here (let a = i.0 in let b = c.loop-k-test.false in omega arith) was k (subst (λ n. k < n) new h),
    )
