-- The program that prefers the anchor's socket is accepted.
use Rattle.std.proofs.Common.{◌≡◌, ◌⊎◌, inl, inr, ℕ, zero, suc, ℤ, pos, ◌<◌, ◌≤ℤ◌, List, [], ◌∷◌, true, false, Some, Ok, refl, sym, ap, ◌∙◌, subst, arith}
use Rattle.std.proofs.lemmas.Bool.Decides.{nat_tests}
use Rattle.std.proofs.lemmas.Int.{ints}
use Rattle.bpf_isa.specs.declared.insn.Insn.{Insn}
use Rattle.bpf_isa.specs.declared.insn.Insn.TheVariants.{Load, Alu, Jump, Exit}
use Rattle.bpf_isa.specs.declared.insn.Operand.TheVariants.{Reg, Imm}
use Rattle.bpf_isa.specs.declared.insn.AluOp.TheVariants.{Mov}
use Rattle.bpf_isa.specs.declared.insn.Cond.TheVariants.{Eq}
use Rattle.bpf_isa.specs.declared.insn.Width.TheVariants.{W64}
use Rattle.bpf_isa.specs.declared.insn.Size.TheVariants.{W}
use Rattle.bpf_isa.specs.declared.insn.Profile.TheVariants.{One}
use Rattle.bpf_isa.specs.Decoding.{decoding, slot_in, slots_from}
use Rattle.bpf_isa.specs.Flow.{insn_at, jump_offset, target}
use Rattle.bpf_isa.specs.Operands.{reads}
use Rattle.bpf_isa.specs.Slots.{raw_at, is_second_half}
use Rattle.bpf_isa.specs.Table.{insn_in, alu_in, jump_in, load_in}
use Rattle.bpf_verifier.specs.declared.kind.Kind.{Kind}
use Rattle.bpf_verifier.specs.declared.kind.Kind.TheVariants.{Absent, Number, Context}
use Rattle.bpf_verifier.specs.declared.refusal.Refusal.TheVariants.{Back, OutOfProgram, NoValue, PointerUse, BadLoad, NoMemory}
use Rattle.bpf_verifier.specs.Kinds.{kind_at, kinds_at_start, kinds_after, takes_pointer, base_of, loads_outside}
use Rattle.bpf_verifier.specs.Paths.{Leads, IsPath, IsReached, HasKind, kinds_along}
use Rattle.bpf_verifier.specs.Acceptance.{IsAccepted}
use Rattle.bpf_verifier.proofs.Leading.{edge_cases}
use Rattle.trace_text.specs.Generator.{same_socket}
use Rattle.policy_text.specs.Accepted.{IsProgram}

-- the sockets of the waiter and of the anchor, and 1 where they are equal, else 0
abbrev insns : List Insn
insns = Load W 2 1 (pos 0) ∷ Load W 1 1 (pos 4) ∷ Alu W64 Mov 0 (Imm (pos 1)) ∷ Jump W64 Eq 1 (Reg 2) (pos 1) ∷ Alu W64 Mov 0 (Imm (pos 0)) ∷ Exit ∷ []

-- the kinds before each slot, those of a path's last step
abbrev kinds_of : ℕ → List Kind
kinds_of zero = kinds_at_start
kinds_of (suc zero) = Absent ∷ Context ∷ Number ∷ Absent ∷ Absent ∷ Absent ∷ Absent ∷ Absent ∷ Absent ∷ Absent ∷ []
kinds_of (suc (suc zero)) = Absent ∷ Number ∷ Number ∷ Absent ∷ Absent ∷ Absent ∷ Absent ∷ Absent ∷ Absent ∷ Absent ∷ []
kinds_of (suc (suc (suc slot))) = Number ∷ Number ∷ Number ∷ Absent ∷ Absent ∷ Absent ∷ Absent ∷ Absent ∷ Absent ∷ Absent ∷ []

-- where a slot leads to: inside, and with those kinds
record Goes (slot to : ℕ) : Type 0 where
  inside : to < 6
  kinds : kinds_after (insn_at insns slot) (kinds_of slot) ≡ kinds_of to

goes_on : (slot next to : ℕ) → Goes slot next → Some next ≡ Some to → Goes slot to
goes_on slot next to goes is = subst (Goes slot) (let same : next ≡ to = cc in same) goes

goes : (slot to : ℕ) → Leads (insn_at insns slot) slot to → Goes slot to
goes zero to leads = elim (edge_cases (insn_at insns 0) 0 (pos to) leads) [
  | inl n ↦ subst (Goes 0) (let same : 1 ≡ to = cc in same) (record { inside = omega arith; kinds = refl })
  | inr j ↦ cc
]
goes (suc zero) to leads = elim (edge_cases (insn_at insns 1) 1 (pos to) leads) [
  | inl n ↦ subst (Goes 1) (let same : 2 ≡ to = cc in same) (record { inside = omega arith; kinds = refl })
  | inr j ↦ cc
]
goes (suc (suc zero)) to leads = elim (edge_cases (insn_at insns 2) 2 (pos to) leads) [
  | inl n ↦ subst (Goes 2) (let same : 3 ≡ to = cc in same) (record { inside = omega arith; kinds = refl })
  | inr j ↦ cc
]
goes (suc (suc (suc zero))) to leads = elim (edge_cases (insn_at insns 3) 3 (pos to) leads) [
  | inl n ↦ subst (Goes 3) (let same : 4 ≡ to = cc in same) (record { inside = omega arith; kinds = refl })
  | inr j ↦ (let off : pos 1 ≡ j.0 = cc in
      let place : pos 5 ≡ pos to = ap (target 3) off ∙ j.2 in
      subst (Goes 3) (let same : 5 ≡ to = cc in same) (record { inside = omega arith; kinds = refl }))
]
goes (suc (suc (suc (suc zero)))) to leads = elim (edge_cases (insn_at insns 4) 4 (pos to) leads) [
  | inl n ↦ subst (Goes 4) (let same : 5 ≡ to = cc in same) (record { inside = omega arith; kinds = refl })
  | inr j ↦ cc
]
goes (suc (suc (suc (suc (suc zero))))) to leads = elim (edge_cases (insn_at insns 5) 5 (pos to) leads) [ inl n ↦ cc | inr j ↦ cc ]
goes (suc (suc (suc (suc (suc (suc slot)))))) to leads = elim (edge_cases (insn_at insns (suc (suc (suc (suc (suc (suc slot))))))) (suc (suc (suc (suc (suc (suc slot)))))) (pos to) leads) [ inl n ↦ cc | inr j ↦ cc ]

along : (path : List ℕ) (slot : ℕ) → IsPath insns (slot ∷ path) → kinds_along insns (slot ∷ path) ≡ kinds_of slot
along [] slot is = ap kinds_of (sym is)
along (from ∷ path) slot is = ap (kinds_after (insn_at insns from)) (along path from is.0) ∙ (goes from slot is.1.leads).kinds

-- all paths to the slot agree on those kinds
has : (slot reg : ℕ) (kind : Kind) → kind_at (kinds_of slot) reg ≡ kind → HasKind insns slot reg kind
has slot reg kind is = λ path on. ap (λ (ks : List Kind). kind_at ks reg) (along path slot on) ∙ is

has_only : (slot reg : ℕ) (kind : Kind) → IsReached insns slot → HasKind insns slot reg kind → kind_at (kinds_of slot) reg ≡ kind
has_only slot reg kind reached all = ap (λ (ks : List Kind). kind_at ks reg) (sym (along reached.0 slot reached.1)) ∙ all reached.0 reached.1

-- what the instruction of a slot asks of the kinds before it
record IsSafeAt (slot : ℕ) : Type 0 where
  forward : (off : ℤ) → jump_offset (insn_at insns slot) ≡ Some off → target slot off ≤ℤ pos slot → ⊥
  numbers : (reg : ℕ) → reads (insn_at insns slot) reg ≡ true → takes_pointer (insn_at insns slot) ≡ false → kind_at (kinds_of slot) reg ≡ Number
  pointers : (reg : ℕ) → reads (insn_at insns slot) reg ≡ true → takes_pointer (insn_at insns slot) ≡ true → kind_at (kinds_of slot) reg ≡ Context
  bases : (base : ℕ) → base_of (insn_at insns slot) ≡ Some base → kind_at (kinds_of slot) base ≡ Context
  loads : loads_outside (insn_at insns slot) ≡ false

at_register : (slot : ℕ) (kind : Kind) (reg other : ℕ) → reg ≡ other → kind_at (kinds_of slot) reg ≡ kind → kind_at (kinds_of slot) other ≡ kind
at_register slot kind reg other same is = subst (λ (r : ℕ). kind_at (kinds_of slot) r ≡ kind) same is

one_or_two : (reg : ℕ) → reads (insn_at insns 3) reg ≡ true → (1 ≡ reg) ⊎ (2 ≡ reg)
one_or_two reg read = grind (arith, nat_tests)

safe_at : (slot : ℕ) → IsSafeAt slot
safe_at zero = record {
  forward = λ off is back. cc;
  numbers = λ reg read takes. cc;
  pointers = λ reg read takes. at_register 0 Context 1 reg (grind (arith, nat_tests)) refl;
  bases = λ base is. at_register 0 Context 1 base (cc) refl;
  loads = refl;
}
safe_at (suc zero) = record {
  forward = λ off is back. cc;
  numbers = λ reg read takes. cc;
  pointers = λ reg read takes. at_register 1 Context 1 reg (grind (arith, nat_tests)) refl;
  bases = λ base is. at_register 1 Context 1 base (cc) refl;
  loads = refl;
}
safe_at (suc (suc zero)) = record {
  forward = λ off is back. cc;
  numbers = λ reg read takes. cc;
  pointers = λ reg read takes. cc;
  bases = λ base is. cc;
  loads = refl;
}
safe_at (suc (suc (suc zero))) = record {
  forward = λ off is back. (let one : off ≡ pos 1 = cc in
      let under : pos 5 ≤ℤ pos 3 = subst (λ (o : ℤ). target 3 o ≤ℤ pos 3) one back in omega (arith, ints, under));
  numbers = λ reg read takes. elim (one_or_two reg read) [
    | inl is ↦ at_register 3 Number 1 reg is refl
    | inr is ↦ at_register 3 Number 2 reg is refl
  ];
  pointers = λ reg read takes. cc;
  bases = λ base is. cc;
  loads = refl;
}
safe_at (suc (suc (suc (suc zero)))) = record {
  forward = λ off is back. cc;
  numbers = λ reg read takes. cc;
  pointers = λ reg read takes. cc;
  bases = λ base is. cc;
  loads = refl;
}
safe_at (suc (suc (suc (suc (suc zero))))) = record {
  forward = λ off is back. cc;
  numbers = λ reg read takes. at_register 5 Number 0 reg (grind (arith, nat_tests)) refl;
  pointers = λ reg read takes. cc;
  bases = λ base is. cc;
  loads = refl;
}
safe_at (suc (suc (suc (suc (suc (suc slot)))))) = record {
  forward = λ off is back. cc;
  numbers = λ reg read takes. cc;
  pointers = λ reg read takes. cc;
  bases = λ base is. cc;
  loads = refl;
}

given : (slot reg : ℕ) → reads (insn_at insns slot) reg ≡ true → (kind_at (kinds_of slot) reg ≡ Number) ⊎ (kind_at (kinds_of slot) reg ≡ Context)
given slot reg read = elim (takes_pointer (insn_at insns slot)) as (λ b. takes_pointer (insn_at insns slot) ≡ b → (kind_at (kinds_of slot) reg ≡ Number) ⊎ (kind_at (kinds_of slot) reg ≡ Context)) [
  | true ↦ λ takes. inr ((safe_at slot).pointers reg read takes)
  | false ↦ λ takes. inl ((safe_at slot).numbers reg read takes)
] refl

no_fault : IsAccepted insns
no_fault (Back slot) h = (safe_at slot).forward h.1.0 h.1.1 h.1.2
no_fault (OutOfProgram slot) h = let inside = (goes slot h.1.0 h.1.1).inside in omega (arith, inside, h.1.2)
no_fault (NoValue slot reg) h = elim (given slot reg h.1.read) [
  | inl is ↦ h.1.no_number (has slot reg Number is)
  | inr is ↦ h.1.no_context (has slot reg Context is)
]
no_fault (PointerUse slot reg) h =
    let number = (safe_at slot).numbers reg h.1.read h.1.as_number in
    let pointer = has_only slot reg Context h.1.reached h.1.context in cc
no_fault (BadLoad slot) h = elim h.1.bad [
  | inl b ↦ (let pointer = (safe_at slot).bases b.0 b.1 in let number = has_only slot b.0 Number h.1.reached b.2 in cc)
  | inr outside ↦ (let inside = (safe_at slot).loads in cc)
]
no_fault NoMemory h = h

decodes : decoding One same_socket ≡ Ok insns
unfolding slots_from slot_in insn_in raw_at is_second_half alu_in jump_in load_in
decodes = refl

pub socket_accepted : IsProgram One same_socket
socket_accepted = (insns, decodes, no_fault)
