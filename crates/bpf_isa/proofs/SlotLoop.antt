-- Reading slots one after the other, as a loop does.
use Rattle.std.proofs.Common.{◌≡◌, ℕ, suc, ◌-◌, ◌+◌, ◌≤◌, ◌<◌, List, [], ◌∷◌, ◌++◌, Result, Ok, Err, refl, sym, ap, ◌∙◌, append_assoc, arith}
use Rattle.std.proofs.lemmas.List.{append-nil}
use Rattle.bpf_isa.specs.declared.error.IsaError.{IsaError}
use Rattle.bpf_isa.specs.declared.fault.SlotFault.{SlotFault}
use Rattle.bpf_isa.specs.declared.insn.Insn.{Insn}
use Rattle.bpf_isa.specs.declared.insn.Profile.{Profile}
use Rattle.bpf_isa.specs.Decoding.{in_front, slot_in, slots_from}
use Rattle.bpf_isa.specs.Faults.{fault_at, Fails}
use Rattle.bpf_isa.specs.declared.fault.SlotFault.TheVariants.{Opcode, Register, Field, HalfLoad}

-- the instructions read so far, in front of those that are still to be read
abbrev pub with_front : List Insn → Result (List Insn) IsaError → Result (List Insn) IsaError
with_front front (Ok x) = Ok (front ++ x)
with_front front (Err e) = Err e

regroup : (front : List Insn) (slot : ℕ) (a : Insn) (others : Result (List Insn) IsaError) → with_front front (in_front slot (Ok a) others) ≡ with_front (front ++ a ∷ []) others
regroup front slot a (Ok x) = ap (λ (v : List Insn). Ok v) (simp append_assoc)
regroup front slot a (Err f) = refl

pub goes_on : (front : List Insn) (p : Profile) (bytes : List ℕ) (count i : ℕ) (a : Insn) (total : Result (List Insn) IsaError) → i < count → Ok a ≡ slot_in p bytes count i
    → with_front front (slots_from p bytes count i (count - i)) ≡ total → with_front (front ++ a ∷ []) (slots_from p bytes count (i + 1) (count - (i + 1))) ≡ total
unfolding slots_from
goes_on front p bytes count i a total lt h so_far =
    let k : count - i ≡ suc (count - (i + 1)) = omega arith in
    let one : with_front front (slots_from p bytes count i (count - i)) ≡ with_front (front ++ a ∷ []) (slots_from p bytes count (i + 1) (count - (i + 1))) = rw (k, ← h) (regroup front i a (slots_from p bytes count (i + 1) (count - (i + 1)))) in
    sym one ∙ so_far

pub ends : (front : List Insn) (p : Profile) (bytes : List ℕ) (count i : ℕ) (fault : SlotFault) (total : Result (List Insn) IsaError) → i < count → Err fault ≡ slot_in p bytes count i
    → with_front front (slots_from p bytes count i (count - i)) ≡ total → total ≡ Err (fault_at i fault)
unfolding slots_from
ends front p bytes count i fault total lt h so_far =
    let k : count - i ≡ suc (count - (i + 1)) = omega arith in
    let one : with_front front (slots_from p bytes count i (count - i)) ≡ Err (fault_at i fault) = rw (k, ← h) refl in
    sym so_far ∙ one

pub is_done : (front : List Insn) (p : Profile) (bytes : List ℕ) (count i : ℕ) (total : Result (List Insn) IsaError) → count ≤ i → with_front front (slots_from p bytes count i (count - i)) ≡ total → total ≡ Ok front
unfolding slots_from
is_done front p bytes count i total le so_far =
    let k : count - i ≡ 0 = omega arith in
    let one : with_front front (slots_from p bytes count i (count - i)) ≡ Ok front = rw k (ap (λ (v : List Insn). Ok v) (append-nil front)) in
    sym so_far ∙ one

-- the fault of a slot is the error of the whole
pub fails_at : (i : ℕ) (fault : SlotFault) (due : Result (List Insn) IsaError) → due ≡ Err (fault_at i fault) → Fails (fault_at i fault) due
fails_at i Opcode due h = h
fails_at i Register due h = h
fails_at i Field due h = h
fails_at i HalfLoad due h = h
