use Rattle.std.proofs.Common.{◌≡◌, ◌≢◌, ◌<◌, length, ap, ◌∙◌, arith, below_more, get_or-set_other, get_or-set_same}
use Rattle.std.proofs.lemmas.Grind.{common_steps}
use Rattle.bpf_verifier.specs.declared.kind.Kind.{Kind}
use Rattle.bpf_verifier.specs.Kinds.{kind_at}
use Rattle.bpf_verifier.specs.Pass.{meet}
use Rattle.bpf_verifier.proofs.states.agree.Goals as goal

pub loop-reg-preserved : goal.loop-reg-preserved
loop-reg-preserved c =
    let now : c.agreed.result ≡ meet (kind_at c.args.old.now c.loop-reg.reg) (kind_at c.args.new.now c.loop-reg.reg) = c.agreed.ensures ∙ ap (λ (v : Kind). meet v (kind_at c.args.new.now c.loop-reg.reg)) (c.loop-reg.invariant.ahead c.loop-reg.reg (omega arith)) in
    let lt : c.loop-reg.reg < length c.loop-reg.old = omega (arith, c.loop-reg.invariant.long) in
    record {
      long = grind (arith, common_steps);
      done = below_more _ _ (λ k h. let ne : k ≢ c.loop-reg.reg = omega arith in rw get_or-set_other (c.loop-reg.invariant.done k h)) (rw get_or-set_same now);
      ahead = λ k h. let ne : k ≢ c.loop-reg.reg = omega arith in rw get_or-set_other (c.loop-reg.invariant.ahead k (omega arith));
    }

pub returns : goal.returns
returns c = record { long = c.loop-reg.invariant.long; each = λ reg lt. c.loop-reg.invariant.done reg (omega arith) }
