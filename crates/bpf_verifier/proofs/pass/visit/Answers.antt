use Rattle.std.proofs.Common.{◌≡◌, length, Option, Some, None, false, IfNone, refl, sym, ◌∙◌}
use Rattle.std.specs.Option.{is_some}
use Rattle.bpf_verifier.specs.declared.refusal.Refusal.{Refusal}
use Rattle.bpf_verifier.specs.declared.refusal.Refusal.TheVariants.{Back, OutOfProgram}
use Rattle.bpf_verifier.specs.Pass.{state_at}
use Rattle.bpf_verifier.proofs.Faulty.{by_edge}
use Rattle.bpf_verifier.proofs.pass.visit.Goals as goal

at_none : (P : Type 0) (found : Option Refusal) → is_some found ≡ false → IfNone found P → P
at_none P None e h = h
at_none P (Some fault) e h = cc

pub hand_on-requires-clause-forward : goal.hand_on-requires-clause-forward
hand_on-requires-clause-forward c = λ back. at_none _ _ (sym c.is_some.ensures ∙ c.if-is_some.false) c.slot_fault-fault.ensures.none (Back c.args.slot)
    (by_edge c.args.insn c.args.slot (length c.args.states.now) (state_at c.args.states.now c.args.slot) (Back c.args.slot) (refl, back))

pub hand_on-requires-clause-inside : goal.hand_on-requires-clause-inside
hand_on-requires-clause-inside c = λ leaves. at_none _ _ (sym c.is_some.ensures ∙ c.if-is_some.false) c.slot_fault-fault.ensures.none (OutOfProgram c.args.slot)
    (by_edge c.args.insn c.args.slot (length c.args.states.now) (state_at c.args.states.now c.args.slot) (OutOfProgram c.args.slot) (refl, leaves))
