use Rattle.std.proofs.Common.{rules, ◌≡◌, ℕ, List, ◌∷◌, ap, ◌∙◌, subst, reverse}
use Rattle.shfl_mutex.specs.MutexSeats.{HoldsJust}
use Rattle.shfl_mutex.proofs.Stacks.{holds-less, reverse-more}
use Rattle.shfl_mutex.proofs.seat.MutexSeat.put_back.Goals as goal

pub invariant_of-self : goal.invariant_of-self
invariant_of-self g c = let i = c.self.inside in let left : List ℕ = c.pop.new.self.items in let last : c.in-Some.last ≡ c.args.lock = search rules in
    let stack : reverse i.held.items ≡ c.args.lock ∷ reverse left = ap reverse c.in-Some.ensures.items ∙ (reverse-more left c.in-Some.last ∙ ap (λ (k : ℕ). k ∷ reverse left) last) in (
      holds-less i.arena.now.id c.args.lock (reverse left) i.seat c.unlock_value.new.self (subst (λ ks. HoldsJust {X = g.row.T.Denot} i.arena.now.id ks i.seat) stack c.self.invariant.0) c.unlock_value.ensures,
      c.self.invariant.1,
      search rules,
    )
