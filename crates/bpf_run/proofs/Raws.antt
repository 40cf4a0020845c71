-- Decoded instructions compute what their raw slots do.
use Rattle.std.proofs.Common.{◌≡◌, ◌<◌, ◌+◌, ◌*◌, ◌/◌, get_or, drop, ℕ, ℤ, pos, zero, suc, List, [], ◌∷◌, length, true, refl, sym, ap, ◌∙◌, inl, inr, add-one, arith}
use Rattle.std.proofs.lemmas.Bool.{cases_lt}
use Rattle.std.proofs.lemmas.List.{drop_all, drop_more}
use Rattle.bpf_isa.specs.declared.insn.Insn.{Insn}
use Rattle.bpf_isa.specs.declared.insn.Insn.TheVariants as insn
use Rattle.bpf_isa.specs.declared.raw.Raw.{Raw}
use Rattle.bpf_isa.specs.Encoding.{raw, encoding}
use Rattle.bpf_isa.specs.Slots.{raw_at}
use Rattle.bpf_isa.specs.Flow.{insn_at, is_half, is_wide}
use Rattle.bpf_isa.specs.WellFormed.{HasFields, IsWellFormed}
use Rattle.bpf_run.specs.declared.flow.Flow.{Flow}
use Rattle.bpf_run.specs.declared.flow.Flow.TheVariants.{Past, End}
use Rattle.bpf_run.specs.Meaning.{Outcome, one_more, going, meaning, first_number, at_start, raw_slots, outcome}
use Rattle.bpf_run.specs.Instructions.{after, running}
use Rattle.bpf_isa.proofs.Raws.{high_of, fields_of, raws_from, raws_at, length-raws_from, encoding_is_slots, length-slots}
use Rattle.bpf_isa.proofs.EncodedAgain.{slot_fields}
use Rattle.bpf_run.proofs.SlotSteps.{registers_after-is, flow_after-is}

-- the fields are in their ranges, and a second half stands behind each wide load
pub record IsRunnable (insns : List Insn) : Type 0 where
  pub fields : (slot : ℕ) → slot < length insns → HasFields (insn_at insns slot)
  pub behind : (slot : ℕ) → slot < length insns → is_wide (insn_at insns slot) ≡ true → (suc slot < length insns) × (is_half (insn_at insns (suc slot)) ≡ true)

runnable-rest : (x : Insn) (insns : List Insn) → IsRunnable (x ∷ insns) → IsRunnable insns
runnable-rest x insns h = record {
  fields = λ slot lt. h.fields (suc slot) (omega arith);
  behind = λ slot lt wide. let b = h.behind (suc slot) (omega arith) wide in (omega (arith, b.0), b.1);
}

half-number : (x : Insn) (upper : ℤ) → is_half x ≡ true → (fields_of upper x).imm ≡ upper
half-number insn.Half upper half = refl
half-number x upper half = cc

-- the number behind a wide load is its upper one
number-behind : (x : Insn) (insns : List Insn) → IsRunnable (x ∷ insns) → is_wide x ≡ true → first_number (raws_from (high_of x) insns) ≡ high_of x
number-behind x [] h wide = absurd (omega (arith, (h.behind 0 (omega arith) wide).0))
number-behind x (y ∷ insns) h wide = half-number y (high_of x) (h.behind 0 (omega arith) wide).1

going-same : (flow flow' : Flow) (f g : ℕ → Outcome) → flow ≡ flow' → ((skip : ℕ) → f skip ≡ g skip) → going flow f ≡ going flow' g
going-same flow flow' f g same each = rw same (by_flow flow')
  where
    by_flow : (w : Flow) → going w f ≡ going w g
    by_flow (End value) = refl
    by_flow (Past skip) = ap one_more (each skip)

raw-running : (skip : ℕ) (upper : ℤ) (insns : List Insn) (context regs : List ℕ) → IsRunnable insns → meaning skip (raws_from upper insns) context regs ≡ running skip insns context regs
raw-running zero upper [] context regs h = refl
raw-running (suc skip) upper [] context regs h = refl
raw-running (suc skip) upper (x ∷ insns) context regs h = raw-running skip (high_of x) insns context regs (runnable-rest x insns h)
raw-running zero upper (x ∷ insns) context regs h =
    let slots = raws_from (high_of x) insns in
    let same = registers_after-is x upper (first_number slots) context regs (h.fields 0 (omega arith)) (number-behind x insns h) in
    going-same _ _ _ _ (flow_after-is x upper regs) (λ skip. rw same (raw-running skip (high_of x) insns context (after x context regs) (runnable-rest x insns h)))

runnable : (insns : List Insn) → IsWellFormed insns → IsRunnable insns
runnable insns h = record {
  fields = h.fields;
  behind = λ slot lt wide. let more : suc slot < length insns = not_last slot lt wide (suc slot) refl in
      let e : is_half (insn_at insns (slot + 1)) ≡ is_wide (insn_at insns slot) = h.halves slot (omega arith) in
      (more, (rw (← add-one) (e ∙ wide)));
}
  where
    not_last : (slot : ℕ) → slot < length insns → is_wide (insn_at insns slot) ≡ true → (next : ℕ) → next ≡ suc slot → next < length insns
    not_last slot lt wide next is = elim (cases_lt next (length insns)) [ inl below ↦ below | inr above ↦ (let last = h.last slot (omega arith) in cc) ]

-- the slots of the bytes are those of the instructions
raw_slots-are : (insns : List Insn) (slot left : ℕ) → IsWellFormed insns → slot + left ≡ length insns → raw_slots (encoding insns) slot left ≡ drop slot (raws_from (pos 0) insns)
raw_slots-are insns slot zero h whole = sym (drop_all slot (raws_from (pos 0) insns) (omega (arith, whole, length-raws_from (pos 0) insns)))
raw_slots-are insns slot (suc left) h whole =
    let d : Raw = raw 0 0 0 (pos 0) (pos 0) in
    let lt : slot < length insns = omega arith in
    let here : raw_at (encoding insns) slot ≡ get_or (raws_from (pos 0) insns) slot d = slot_fields insns slot h lt ∙ sym (raws_at (pos 0) insns slot d lt) in
    ap (λ (r : Raw). r ∷ raw_slots (encoding insns) (slot + 1) left) here
    ∙ ap (λ (rs : List Raw). get_or (raws_from (pos 0) insns) slot d ∷ rs) (raw_slots-are insns (slot + 1) left h (omega (arith, whole)))
    ∙ sym (drop_more (raws_from (pos 0) insns) slot d (omega (arith, lt, length-raws_from (pos 0) insns)))

slot_count : (insns : List Insn) → IsWellFormed insns → length (encoding insns) / 8 ≡ length insns
slot_count insns h =
    let bytes : length (encoding insns) ≡ 8 * length (raws_from (pos 0) insns) = ap length (encoding_is_slots insns h) ∙ length-slots (raws_from (pos 0) insns) in
    omega (arith, bytes, length-raws_from (pos 0) insns)

pub outcome-running : (insns : List Insn) (context : List ℕ) → IsWellFormed insns → outcome insns context ≡ running 0 insns context at_start
outcome-running insns context h =
    ap (λ (count : ℕ). meaning 0 (raw_slots (encoding insns) 0 count) context at_start) (slot_count insns h)
    ∙ ap (λ (slots : List Raw). meaning 0 slots context at_start) (raw_slots-are insns 0 (length insns) h (omega arith))
    ∙ raw-running 0 (pos 0) insns context at_start (runnable insns h)
