use Rattle.std.proofs.Common.{ℕ, length, ◌∙◌, subst, arith}
use Rattle.std.proofs.lemmas.List.{get_or_default}
use Rattle.bpf_isa.specs.declared.insn.Insn.{Insn}
use Rattle.bpf_isa.specs.Flow.{insn_at}
use Rattle.bpf_isa.specs.WellFormed.{HasFields}
use Rattle.bpf_verifier.specs.declared.refusal.Refusal.{Refusal}
use Rattle.bpf_verifier.specs.Faults.{IsFirst}
use Rattle.bpf_verifier.specs.Pass.{SlotFault, HandsAllOn, state_at}
use Rattle.bpf_verifier.proofs.Forward.{begins, settled, Faultless, advances, none_below_next, first_of_all}
use Rattle.bpf_verifier.proofs.pass.first_fault.Goals as goal

pub loop-slot-init : goal.loop-slot-init
loop-slot-init c = record {
  long = c.requires.one_each;
  states = λ to. begins c.args.insns.now c.args.states.now to c.requires.start (c.requires.others to);
  none_below = λ fault has. omega arith;
}

pub visit-requires-clause-fields : goal.visit-requires-clause-fields
visit-requires-clause-fields c =
    subst HasFields (get_or_default c.args.insns.now c.loop-slot.slot _ _ c.loop-slot-test.true) (c.requires.program.fields c.loop-slot.slot c.loop-slot-test.true)

pub returns-in-Some-clause-first : goal.returns-in-Some-clause-first
returns-in-Some-clause-first c =
    let insns = c.args.insns.now in
    let slot = c.loop-slot.slot in
    let state = state_at c.loop-slot.states slot in
    let P : Insn → Type 0 = λ x. IsFirst (SlotFault x slot (length c.loop-slot.states) state) c.in-Some.fault in
    let Q : ℕ → Type 0 = λ n. IsFirst (SlotFault (insn_at insns slot) slot n state) c.in-Some.fault in
    let first = subst Q c.loop-slot.invariant.long (subst P (get_or_default insns slot _ _ c.loop-slot-test.true) c.in-Some.ensures.first) in
    first_of_all insns slot state c.loop-slot-test.true (c.requires.program.fields slot c.loop-slot-test.true) (settled insns slot state (c.loop-slot.invariant.states slot)) c.loop-slot.invariant.none_below c.in-Some.fault first

pub loop-slot-preserved : goal.loop-slot-preserved
loop-slot-preserved c =
    let insns = c.args.insns.now in
    let slot = c.loop-slot.slot in
    let state = state_at c.loop-slot.states slot in
    let fits = c.requires.program.fields slot c.loop-slot-test.true in
    let here = settled insns slot state (c.loop-slot.invariant.states slot) in
    let P : Insn → Type 0 = λ x. (fault : Refusal) → SlotFault x slot (length c.loop-slot.states) state fault → ⊥ in
    let Q : ℕ → Type 0 = λ n. (fault : Refusal) → SlotFault (insn_at insns slot) slot n state fault → ⊥ in
    let faultless : Faultless insns slot state = subst Q c.loop-slot.invariant.long (subst P (get_or_default insns slot _ _ c.loop-slot-test.true) c.in_default.ensures.none) in
    let R : Insn → Type 0 = λ x. HandsAllOn x slot state c.loop-slot.states c.visit.new.states in
    let visits : HandsAllOn (insn_at insns slot) slot state c.loop-slot.states c.visit.new.states = subst R (get_or_default insns slot _ _ c.loop-slot-test.true) c.in_default.ensures.visits in
    record {
      long = c.in_default.ensures.length ∙ c.loop-slot.invariant.long;
      states = λ to. advances insns slot to state c.loop-slot.states c.visit.new.states fits here faultless visits (c.loop-slot.invariant.states to);
      none_below = none_below_next insns slot state fits here faultless c.loop-slot.invariant.none_below;
    }
