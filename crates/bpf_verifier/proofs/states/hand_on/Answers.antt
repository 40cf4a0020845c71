use Rattle.std.proofs.Common.{◌≡◌, ℕ, Option, Some, None, length, true, not, eqb, sym, ◌∙◌, arith}
use Rattle.std.proofs.lemmas.Bool.Decides.{nat_tests}
use Rattle.std.specs.Option.{option_eq}
use Rattle.bpf_verifier.proofs.Leading.{next_inside, target_inside, hands_on_twice}
use Rattle.bpf_verifier.proofs.states.hand_on.Goals as goal

unequal : (m n : ℕ) → true ≡ not (eqb m n) → m ≡ n → ⊥
unequal m n e same = grind (arith, nat_tests)

differs : (a b : Option ℕ) → true ≡ not (option_eq eqb a b) → a ≡ b → ⊥
differs None None e same = cc
differs None (Some n) e same = cc
differs (Some m) None e same = cc
differs (Some m) (Some n) e same = unequal m n e (let inner : m ≡ n = cc in inner)

pub join_at-requires : goal.join_at-requires
join_at-requires c = next_inside c.args.insn c.args.slot (length c.args.states.now) _ c.next_slot-next.ensures c.requires.inside

pub join_at-requires-then-ne : goal.join_at-requires-then-ne
join_at-requires-then-ne c = rw c.join_at.ensures.length (target_inside c.args.insn c.args.slot (length c.args.states.now) _ c.forward_target-target.ensures c.requires.inside)

pub returns-then-ne-clause-each : goal.returns-then-ne-clause-each
returns-then-ne-clause-each c = λ to. hands_on_twice c.args.insn c.args.slot c.args.kinds.now _ _ to _ _ _ c.next_slot-next.ensures c.forward_target-target.ensures (differs _ _ (sym c.if-ne.true ∙ c.ne.ensures)) (c.join_at.ensures.each to) (c.join_at-then-ne.ensures.each to)
