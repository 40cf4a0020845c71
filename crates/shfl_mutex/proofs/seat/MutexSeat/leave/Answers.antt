use Rattle.std.proofs.Common.{rules, arith, ◌≡◌, ℕ, ◌==◌, true, false, length, vec_len, refl, sym, ap, ◌∙◌, subst}
use Rattle.std.proofs.lemmas.Bool.Decides.{nat_tests}
use Rattle.shfl_arena.specs.SeatModels.{ArenaId, IsNewAt}
use Rattle.shfl_mutex.specs.MutexSeats.{HoldsJust, MutexSeatModel}
use Rattle.shfl_mutex.proofs.Stacks.{new-again, none-reversed, some-reversed}
use Rattle.shfl_mutex.proofs.seat.MutexSeat.leave.Goals as goal

is-none : (n : ℕ) → (n == 0) ≡ true → n ≡ 0
is-none n e = grind (arith, nat_tests)

is-some : (n : ℕ) → (n == 0) ≡ false → n ≡ 0 → ⊥
is-some n e z = let f : (n == 0) ≡ true = grind (arith, nat_tests) in let no : true ≡ false = sym f ∙ e in cc

pub returns-then-not-is_empty-clause-exact : goal.returns-then-not-is_empty-clause-exact
returns-then-not-is_empty-clause-exact g c = let i = c.self.inside in let long : vec_len i.held ≡ length i.held.items = search rules in
    (λ no. absurd (cc), λ e. absurd (is-some (vec_len i.held) (sym c.is_empty.ensures ∙ c.if-not-is_empty.true) (long ∙ some-reversed i.held.items (ap (λ (m : MutexSeatModel). m.held) c.self.view_is ∙ e))))

pub returns-clause-ok : goal.returns-clause-ok
returns-clause-ok g c = let i = c.self.inside in let long : vec_len i.held ≡ length i.held.items = search rules in
    let none = none-reversed i.held.items (sym long ∙ is-none (vec_len i.held) (sym c.is_empty.ensures ∙ c.if-not-is_empty.false)) in
    subst (λ (z : ArenaId). IsNewAt {X = g.row.T.Denot} z i.seat) (ap (λ (m : MutexSeatModel). m.arena) c.self.view_is)
    (new-again i.arena.now.id i.seat (subst (λ ks. HoldsJust {X = g.row.T.Denot} i.arena.now.id ks i.seat) none c.self.invariant.0))

pub returns-clause-exact : goal.returns-clause-exact
returns-clause-exact g c = let i = c.self.inside in let long : vec_len i.held ≡ length i.held.items = search rules in
    let none = none-reversed i.held.items (sym long ∙ is-none (vec_len i.held) (sym c.is_empty.ensures ∙ c.if-not-is_empty.false)) in
    (λ _. sym (ap (λ (m : MutexSeatModel). m.held) c.self.view_is) ∙ none, λ _. refl)
