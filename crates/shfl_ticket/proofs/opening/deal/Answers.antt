use Rattle.std.proofs.Common.{rules, length-append, ◌++◌, ◌∷◌, [], arith, ◌≡◌, ◌+◌, ◌<◌, ◌≤◌, length, vec_len, vec_capacity, slice_index, sym, ◌∙◌, subst}
use Rattle.shfl_line.specs.Words.{attr_of}
use Rattle.shfl_ticket.specs.Tickets.{fresh_ticket}
use Rattle.shfl_ticket.proofs.EachTicket.{each-more}
use Rattle.shfl_ticket.proofs.opening.deal.Goals as goal

pub loop-pass-preserved : goal.loop-pass-preserved
loop-pass-preserved c = let i = c.loop-pass.invariant in let p = c.push_reserved.ensures in let id = c.args.share.now.value.board.value.id in
    let old : vec_len c.loop-pass.tickets ≡ length c.loop-pass.tickets.items = search rules in let new : vec_len c.push_reserved.new.self ≡ length c.push_reserved.new.self.items = search rules in
    let long : c.loop-pass.k + 1 ≡ length (c.loop-pass.yielded ++ c.in-Some.pass ∷ []) = (let a = i.2 in omega (arith, length-append c.loop-pass.yielded (c.in-Some.pass ∷ []))) in
    let place : c.loop-pass.k ≡ length c.loop-pass.tickets.items = (let a = i.3 in omega arith) in
    let len : vec_len c.push_reserved.new.self ≡ c.loop-pass.k + 1 = (let a = p.len in let b = i.3 in omega arith) in
    let room : vec_len c.args.share.now.value.words.value ≤ vec_capacity c.push_reserved.new.self = (let a = i.4 in let b = p.capacity in search rules) in
    let here = c.in_ok-ticket.ensures in (
      tt,
      tt,
      long,
      len,
      room,
      λ j h. each-more (λ n. fresh_ticket id n (attr_of (slice_index c.args.share.now.value.words.value.items n))) c.loop-pass.tickets.items c.push_reserved.new.self.items _ p.items
          (here ∙ (λ m. fresh_ticket id (place m) (attr_of (slice_index c.args.share.now.value.words.value.items (place m))))) (λ k l. i.5 k (subst (λ n. k < n) (sym old) l)) j (subst (λ n. j < n) new h),
    )
