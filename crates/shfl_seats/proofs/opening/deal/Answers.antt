use Rattle.std.proofs.Common.{rules, length-append, ◌++◌, ◌∷◌, [], arith, ◌≡◌, ℕ, ◌+◌, ◌<◌, ◌≤◌, length, vec_len, vec_capacity, sym, ap, ◌∙◌, subst}
use Rattle.shfl_ticket.proofs.EachTicket.{each-more}
use Rattle.shfl_seats.specs.Tickets.{fresh_ticket}
use Rattle.shfl_seats.proofs.opening.deal.Goals as goal

pub loop-seat-preserved : goal.loop-seat-preserved
loop-seat-preserved c = let i = c.loop-seat.invariant in let p = c.push_reserved.ensures in let id = c.args.share.now.value.arena.id in
    let old : vec_len c.loop-seat.tickets ≡ length c.loop-seat.tickets.items = search rules in let new : vec_len c.push_reserved.new.self ≡ length c.push_reserved.new.self.items = search rules in
    let long : c.loop-seat.k + 1 ≡ length (c.loop-seat.yielded ++ c.in-Some.seat ∷ []) = (let a = i.2 in omega (arith, length-append c.loop-seat.yielded (c.in-Some.seat ∷ []))) in
    let place : c.loop-seat.k ≡ length c.loop-seat.tickets.items = (let a = i.3 in omega arith) in
    let len : vec_len c.push_reserved.new.self ≡ c.loop-seat.k + 1 = (let a = p.len in let b = i.3 in omega arith) in
    let room : vec_len c.args.seats ≤ vec_capacity c.push_reserved.new.self = (let a = i.4 in let b = p.capacity in search rules) in
    let here = c.in_ok-ticket.ensures in (
      tt,
      tt,
      long,
      len,
      room,
      λ j h. each-more (λ n. fresh_ticket id n) c.loop-seat.tickets.items c.push_reserved.new.self.items _ p.items
          (here ∙ (λ m. fresh_ticket id (place m))) (λ k l. i.5 k (subst (λ n. k < n) (sym old) l)) j (subst (λ n. j < n) new h),
    )
