use Rattle.std.proofs.Common.{◌≡◌, ◌+◌, drop, subst, ap, sym, ◌∙◌, arith}
use Rattle.std.proofs.lemmas.List.{get_or_default}
use Rattle.bpf_isa.specs.declared.insn.Insn.{Insn}
use Rattle.bpf_isa.specs.WellFormed.{HasFields}
use Rattle.bpf_run.specs.Meaning.{Outcome, at_start, outcome}
use Rattle.bpf_run.specs.Instructions.{running}
use Rattle.bpf_run.proofs.Going.{running-out, running-end, running-on}
use Rattle.bpf_run.proofs.Raws.{outcome-running}
use Rattle.bpf_run.proofs.running.run_insns.Goals as goal

pub step-requires : goal.step-requires
step-requires g c =
    let P : Insn → Type 0 = λ x. HasFields x in
    subst P (get_or_default c.args.insns.now c.loop-at.at _ _ c.loop-at-test.true) (c.requires.fields c.loop-at.at c.loop-at-test.true)

pub returns-in-End-clause-value : goal.returns-in-End-clause-value
returns-in-End-clause-value g c =
    let insns = c.args.insns.now in let context = c.args.context.now in
    let ends = running-end insns c.loop-at.at context c.loop-at.regs _ c.in-End.value c.loop-at-test.true c.in-End.ensures.flow in
    let same : (outcome insns context).value ≡ (running 0 insns context at_start).value = ap (λ (o : Outcome). o.value) (outcome-running insns context c.requires) in
    sym (ap (λ (o : Outcome). o.value) ends) ∙ c.loop-at.invariant.value ∙ sym same

pub returns-in-End-clause-count : goal.returns-in-End-clause-count
returns-in-End-clause-count g c =
    let insns = c.args.insns.now in let context = c.args.context.now in
    let ends : (running 0 (drop c.loop-at.at insns) context c.loop-at.regs).count ≡ 1 = ap (λ (o : Outcome). o.count) (running-end insns c.loop-at.at context c.loop-at.regs _ c.in-End.value c.loop-at-test.true c.in-End.ensures.flow) in
    let same : (outcome insns context).count ≡ (running 0 insns context at_start).count = ap (λ (o : Outcome). o.count) (outcome-running insns context c.requires) in
    omega (arith, ends, same, c.tick.ensures, c.loop-at.invariant.count)

pub returns-in-End-clause-counted : goal.returns-in-End-clause-counted
returns-in-End-clause-counted g c =
    let insns = c.args.insns.now in let context = c.args.context.now in
    let ends : (running 0 (drop c.loop-at.at insns) context c.loop-at.regs).count ≡ 1 = ap (λ (o : Outcome). o.count) (running-end insns c.loop-at.at context c.loop-at.regs _ c.in-End.value c.loop-at-test.true c.in-End.ensures.flow) in
    let same : (outcome insns context).count ≡ (running 0 insns context at_start).count = ap (λ (o : Outcome). o.count) (outcome-running insns context c.requires) in
    omega (arith, ends, same, c.loop-at.invariant.counted)

pub loop-at-preserved : goal.loop-at-preserved
loop-at-preserved g c =
    let insns = c.args.insns.now in let context = c.args.context.now in
    let on = running-on insns c.loop-at.at context c.loop-at.regs _ c.in-Past.skip c.loop-at-test.true c.in-Past.ensures.flow in
    let next = running 0 (drop (c.loop-at.at + (1 + c.in-Past.skip)) insns) context in
    let same : (running 0 (drop c.loop-at.at insns) context c.loop-at.regs).value ≡ (next c.step.new.regs).value = rw c.in-Past.ensures.regs (ap (λ (o : Outcome). o.value) on) in
    let more : (running 0 (drop c.loop-at.at insns) context c.loop-at.regs).count ≡ (next c.step.new.regs).count + 1 = rw c.in-Past.ensures.regs (ap (λ (o : Outcome). o.count) on) in
    record {
      value = sym same ∙ c.loop-at.invariant.value;
      counted = omega (arith, more, c.loop-at.invariant.counted);
      count = omega (arith, more, c.tick.ensures, c.loop-at.invariant.count);
      few = omega (arith, c.tick.ensures, c.loop-at.invariant.few, c.loop-at-test.true);
      small = omega (arith, c.loop-at.invariant.small);
    }

pub returns-clause-value : goal.returns-clause-value
returns-clause-value g c =
    let insns = c.args.insns.now in let context = c.args.context.now in
    let out = running-out insns c.loop-at.at context c.loop-at.regs c.loop-at-test.false in
    let same : (outcome insns context).value ≡ (running 0 insns context at_start).value = ap (λ (o : Outcome). o.value) (outcome-running insns context c.requires) in
    sym (ap (λ (o : Outcome). o.value) out) ∙ c.loop-at.invariant.value ∙ sym same

pub returns-clause-count : goal.returns-clause-count
returns-clause-count g c =
    let insns = c.args.insns.now in let context = c.args.context.now in
    let out : (running 0 (drop c.loop-at.at insns) context c.loop-at.regs).count ≡ 0 = ap (λ (o : Outcome). o.count) (running-out insns c.loop-at.at context c.loop-at.regs c.loop-at-test.false) in
    let same : (outcome insns context).count ≡ (running 0 insns context at_start).count = ap (λ (o : Outcome). o.count) (outcome-running insns context c.requires) in
    omega (arith, out, same, c.loop-at.invariant.count)

pub returns-clause-counted : goal.returns-clause-counted
returns-clause-counted g c =
    let insns = c.args.insns.now in let context = c.args.context.now in
    let out : (running 0 (drop c.loop-at.at insns) context c.loop-at.regs).count ≡ 0 = ap (λ (o : Outcome). o.count) (running-out insns c.loop-at.at context c.loop-at.regs c.loop-at-test.false) in
    let same : (outcome insns context).count ≡ (running 0 insns context at_start).count = ap (λ (o : Outcome). o.count) (outcome-running insns context c.requires) in
    omega (arith, out, same, c.loop-at.invariant.counted)
