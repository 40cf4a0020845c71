-- Lines one after the other, as the second walk reads them.
use Rattle.std.proofs.Common.{◌≡◌, ℕ, ℤ, pos, ◌-ℤ◌, ◌+◌, ◌≤◌, List, [], ◌∷◌, ◌++◌, length, length-append, Option, Some, None, Result, Ok, Err, refl, sym, ap, ◌∙◌, subst, append_assoc, arith, nat_le, ◌==◌}
use Rattle.std.proofs.lemmas.Bool.{cond_both, leb-true}
use Rattle.std.proofs.lemmas.List.{append-nil}
use Rattle.bpf_isa.specs.declared.insn.Insn.{Insn}
use Rattle.bpf_asm.specs.declared.assembler.Slots.{Slots}
use Rattle.bpf_asm.specs.declared.error.AsmError.{AsmError}
use Rattle.bpf_asm.specs.declared.error.AsmError.TheVariants as errors
use Rattle.bpf_asm.specs.declared.names.Mark.{Mark}
use Rattle.bpf_asm.specs.Assembly.{Line, at_offset, within, into_half, first_offset, layout, mark_of, reaching, jump_to, name_at, code_at, slots_in, in_front, followed, slots_from, some_slots}
use Rattle.bpf_asm.specs.Views.{GivesSlots}
use Rattle.bpf_asm.specs.Statements as line

-- a jump that has the offset which it needs
pub reach : (slot : ℕ) (x y : Insn) (mark : Mark) (off : ℤ) (r : Result Slots ℕ) (found : Option Mark) → found ≡ Some mark → off ≡ pos mark.slot -ℤ pos (slot + 1)
    → Some y ≡ at_offset x off → GivesSlots r (within slot (y ∷ [])) → GivesSlots r (jump_to slot x found)
reach slot x y mark off r found f o a h =
    subst (λ (z : Option Mark). GivesSlots r (jump_to slot x z)) (sym f)
    (subst (λ (z : ℤ). GivesSlots r (reaching slot (at_offset x z))) o
    (subst (λ (z : Option Insn). GivesSlots r (reaching slot z)) a h))

abbrev Few : ℕ → Result (List Insn) ℕ → Type 0
Few slot (Ok here) = slot + length here ≤ 512
Few slot (Err fault) = Unit {0}

few_within : (slot : ℕ) (insns : List Insn) → Few slot (within slot insns)
few_within slot insns = cond_both (nat_le (slot + length insns) 512) _ _ (Few slot) (λ e. leb-true (slot + length insns) 512 e) (λ _. tt)

few_name : (at slot : ℕ) (found : Option Mark) → slot ≤ 512 → Few slot (name_at at found)
few_name at slot None h = tt
few_name at slot (Some mark) h = cond_both (mark.line == at) _ _ (Few slot) (λ _. omega arith) (λ _. tt)

few_reaching : (slot : ℕ) (found : Option Insn) → Few slot (reaching slot found)
few_reaching slot None = tt
few_reaching slot (Some x) = few_within slot (x ∷ [])

few_jump : (slot : ℕ) (x : Insn) (found : Option Mark) → Few slot (jump_to slot x found)
few_jump slot x None = tt
few_jump slot x (Some mark) = few_reaching slot (at_offset x (pos mark.slot -ℤ pos (slot + 1)))

few_code : (insns : List Insn) (slot : ℕ) (code : List Insn) → Few slot (code_at insns slot code)
few_code insns slot code = cond_both (into_half insns slot (first_offset code)) _ _ (Few slot) (λ _. tt) (λ _. few_within slot code)

few_in : (all : List Line) (at slot : ℕ) (l : Line) → slot ≤ 512 → Few slot (slots_in all at slot l)
few_in all at slot (Err fault) h = tt
few_in all at slot (Ok (line.Statement.Name name)) h = few_name at slot (mark_of name 1 0 all) h
few_in all at slot (Ok (line.Statement.Code code)) h = few_code (layout all) slot code
few_in all at slot (Ok (line.Statement.JumpTo x name)) h = few_jump slot x (mark_of name 1 0 all)

-- slots that a line brings end within the program
pub few_slots : (all : List Line) (at slot : ℕ) (l : Line) (here : List Insn) → slot ≤ 512 → slots_in all at slot l ≡ Ok here → slot + length here ≤ 512
few_slots all at slot l here h e = subst (Few slot) e (few_in all at slot l h)

regroup : (front here : List Insn) (others : Result (List Insn) AsmError) → in_front front (in_front here others) ≡ in_front (front ++ here) others
regroup front here (Ok x) = ap (λ (v : List Insn). Ok v) (sym (append_assoc front here x))
regroup front here (Err e) = refl

pub goes_on : (all : List Line) (front after here : List Insn) (at : ℕ) (l : Line) (ls : List Line) (total : Result (List Insn) AsmError)
    → slots_in all at (length front) l ≡ Ok here → after ≡ front ++ here → in_front front (slots_from all at (length front) (l ∷ ls)) ≡ total
    → in_front after (slots_from all (at + 1) (length after) ls) ≡ total
unfolding slots_from
goes_on all front after here at l ls total e a so_far =
    let count : length after ≡ length front + length here = ap length a ∙ length-append front here in
    let step : in_front front (slots_from all at (length front) (l ∷ ls)) ≡ in_front front (in_front here (slots_from all (at + 1) (length front + length here) ls)) =
    ap (λ (r : Result (List Insn) ℕ). in_front front (followed at r (λ here. slots_from all (at + 1) (length front + length here) ls))) e in
    rw (count, a) (sym (regroup front here (slots_from all (at + 1) (length front + length here) ls)) ∙ sym step ∙ so_far)

pub ends : (all : List Line) (front : List Insn) (at what : ℕ) (l : Line) (ls : List Line) (total : Result (List Insn) AsmError)
    → slots_in all at (length front) l ≡ Err what → in_front front (slots_from all at (length front) (l ∷ ls)) ≡ total → total ≡ Err (errors.Format at what)
unfolding slots_from
ends all front at what l ls total e so_far = sym so_far ∙ ap (λ (r : Result (List Insn) ℕ). in_front front (followed at r (λ here. slots_from all (at + 1) (length front + length here) ls))) e

pub is_done : (all : List Line) (front : List Insn) (at : ℕ) (total : Result (List Insn) AsmError) → in_front front (slots_from all at (length front) []) ≡ total → total ≡ Ok front
unfolding slots_from
is_done all front at total so_far = sym so_far ∙ ap (λ (v : List Insn). Ok v) (append-nil front)

pub some_are : (at : ℕ) (front : List Insn) (total : Result (List Insn) AsmError) → total ≡ Ok front → length front ≡ 0 → some_slots at total ≡ Err (errors.Format at 9)
some_are at [] total e h = ap (some_slots at) e
some_are at (x ∷ xs) total e h = absurd (omega (arith, h))

pub all_are : (at : ℕ) (front : List Insn) (total : Result (List Insn) AsmError) → total ≡ Ok front → (length front ≡ 0 → ⊥) → some_slots at total ≡ Ok front
all_are at [] total e h = absurd (h refl)
all_are at (x ∷ xs) total e h = ap (some_slots at) e
