-- The run from a slot on, one instruction at a time.
use Rattle.std.proofs.Common.{◌≡◌, ℕ, zero, suc, ◌+◌, ◌<◌, ◌≤◌, List, [], ◌∷◌, length, get_or, drop, refl, ap, ◌∙◌, arith}
use Rattle.std.proofs.lemmas.List.{drop-drop, drop_all, at_drop_more}
use Rattle.bpf_isa.specs.declared.insn.Insn.{Insn}
use Rattle.bpf_run.specs.declared.flow.Flow.TheVariants.{Past, End}
use Rattle.bpf_run.specs.Meaning.{one_more, going}
use Rattle.bpf_run.specs.Instructions.{after, flow_of, running}

-- passing over slots is dropping them
running-skip : (skip : ℕ) (insns : List Insn) (context regs : List ℕ) → running skip insns context regs ≡ running 0 (drop skip insns) context regs
running-skip zero [] context regs = refl
running-skip zero (x ∷ insns) context regs = refl
running-skip (suc skip) [] context regs = refl
running-skip (suc skip) (x ∷ insns) context regs = running-skip skip insns context regs

-- past the end
pub running-out : (insns : List Insn) (at : ℕ) (context regs : List ℕ) → length insns ≤ at → running 0 (drop at insns) context regs ≡ record { value = 0; count = 0 }
running-out insns at context regs out = rw (drop_all at insns out) refl

-- the instruction at a place, and then the others
running-at : (insns : List Insn) (at : ℕ) (context regs : List ℕ) (d : Insn) → at < length insns
    → running 0 (drop at insns) context regs ≡ going (flow_of (get_or insns at d) regs) (λ skip. running skip (drop (at + 1) insns) context (after (get_or insns at d) context regs))
running-at insns at context regs d lt = at_drop_more (λ (xs : List Insn). running 0 xs context regs) insns at d lt

-- the last instruction
pub running-end : (insns : List Insn) (at : ℕ) (context regs : List ℕ) (d : Insn) (value : ℕ) → at < length insns → End value ≡ flow_of (get_or insns at d) regs
    → running 0 (drop at insns) context regs ≡ record { value = value; count = 1 }
running-end insns at context regs d value lt goes = running-at insns at context regs d lt ∙ rw (← goes) refl

-- where it goes on
pub running-on : (insns : List Insn) (at : ℕ) (context regs : List ℕ) (d : Insn) (skip : ℕ) → at < length insns → Past skip ≡ flow_of (get_or insns at d) regs
    → running 0 (drop at insns) context regs ≡ one_more (running 0 (drop (at + (1 + skip)) insns) context (after (get_or insns at d) context regs))
running-on insns at context regs d skip lt goes =
    let regs' = after (get_or insns at d) context regs in
    let e : drop skip (drop (at + 1) insns) ≡ drop (at + (1 + skip)) insns = drop-drop skip (at + 1) insns ∙ ap (λ n. drop n insns) (omega arith) in
    running-at insns at context regs d lt ∙ rw (← goes) (ap one_more (running-skip skip (drop (at + 1) insns) context regs' ∙ ap (λ (xs : List Insn). running 0 xs context regs') e))
