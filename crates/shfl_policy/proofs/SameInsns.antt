-- Two instructions are equal by the derived test just where they are the same.
use Rattle.std.proofs.Common.{◌≡◌, ◌&&◌, Bool, true, false, refl, ap, ◌∙◌}
use Rattle.std.specs.Ordering.{int_eq}
use Rattle.std.specs.Prelude.{ℤ, ◌==◌}
use Rattle.std.specs.Bool.{Decides}
use Rattle.std.proofs.lemmas.Bool.{and_parts, eqb-true}
use Rattle.std.proofs.lemmas.Bool.Decides.{Decides-int_eq}
use denote.Enum.Bare.{sameb, same_true}
use Rattle.bpf_isa.specs.declared.insn.Insn.{Insn}
use Rattle.bpf_isa.specs.declared.insn.Insn.TheVariants as insn
use Rattle.bpf_isa.specs.declared.insn.Operand.{Operand}
use Rattle.bpf_isa.specs.declared.insn.Operand.TheVariants as operand
use Rattle.bpf_isa.specs.contracts.insn.Width.{the_type as width}
use Rattle.bpf_isa.specs.contracts.insn.Size.{the_type as size}
use Rattle.bpf_isa.specs.contracts.insn.AluOp.{the_type as operation}
use Rattle.bpf_isa.specs.contracts.insn.Cond.{the_type as condition}
use Rattle.bpf_isa.specs.contracts.insn.Order.{the_type as order}
use Rattle.bpf_isa.specs.contracts.insn.InsnPartialEq.TheImpl as derived
use Rattle.bpf_isa.specs.contracts.insn.InsnEq.TheImpl.Laws.{laws-law}
use Rattle.bpf_isa.specs.contracts.insn.OperandPartialEq.TheImpl as of_operand

three : (a b c : Bool) → (a && (b && c)) ≡ true → (a ≡ true) × (b ≡ true) × (c ≡ true)
three a b c h = let t = and_parts a (b && c) h in let u = and_parts b c t.1 in (t.0, u.0, u.1)

four : (a b c d : Bool) → (a && (b && (c && d))) ≡ true → (a ≡ true) × (b ≡ true) × (c ≡ true) × (d ≡ true)
four a b c d h = let t = and_parts a (b && (c && d)) h in let u = three b c d t.1 in (t.0, u.0, u.1, u.2)

signed : (a b : ℤ) → int_eq a b ≡ true → a ≡ b
signed a b = (Decides-int_eq a b).0

operands : (a b : Operand) → (of_operand.ghosts).eq a b ≡ true → a ≡ b
operands (operand.Reg a) (operand.Reg b) h = ap operand.Reg (eqb-true a b h)
operands (operand.Imm a) (operand.Imm b) h = ap operand.Imm (signed a b h)
operands _ _ h = absurd (let e : false ≡ true = h in cc)

-- equal in each field, each by its own test
alike : (a b : Insn) → (derived.ghosts).eq a b ≡ true → a ≡ b
alike (insn.Alu w o d s) (insn.Alu w' o' d' s') h =
    let t = four (sameb width w w') (sameb operation o o') (d == d') ((of_operand.ghosts).eq s s') h in
    λ j. insn.Alu (same_true width tt w w' t.0 j) (same_true operation tt o o' t.1 j) (eqb-true d d' t.2 j) (operands s s' t.3 j)
alike (insn.Neg w d) (insn.Neg w' d') h =
    let t = and_parts (sameb width w w') (d == d') h in
    λ j. insn.Neg (same_true width tt w w' t.0 j) (eqb-true d d' t.1 j)
alike (insn.Load z d s o) (insn.Load z' d' s' o') h =
    let t = four (sameb size z z') (d == d') (s == s') (int_eq o o') h in
    λ j. insn.Load (same_true size tt z z' t.0 j) (eqb-true d d' t.1 j) (eqb-true s s' t.2 j) (signed o o' t.3 j)
alike (insn.Wide d l k) (insn.Wide d' l' k') h =
    let t = three (d == d') (int_eq l l') (int_eq k k') h in
    λ j. insn.Wide (eqb-true d d' t.0 j) (signed l l' t.1 j) (signed k k' t.2 j)
alike insn.Half insn.Half h = refl
alike (insn.Goto o) (insn.Goto o') h = ap insn.Goto (signed o o' h)
alike (insn.GotoLong o) (insn.GotoLong o') h = ap insn.GotoLong (signed o o' h)
alike (insn.Jump w c d s o) (insn.Jump w' c' d' s' o') h =
    let u = and_parts (sameb width w w') (sameb condition c c' && (d == d' && ((of_operand.ghosts).eq s s' && int_eq o o'))) h in
    let t = four (sameb condition c c') (d == d') ((of_operand.ghosts).eq s s') (int_eq o o') u.1 in
    λ j. insn.Jump (same_true width tt w w' u.0 j) (same_true condition tt c c' t.0 j) (eqb-true d d' t.1 j) (operands s s' t.2 j) (signed o o' t.3 j)
alike insn.Exit insn.Exit h = refl
alike (insn.LoadSigned z d s o) (insn.LoadSigned z' d' s' o') h =
    let t = four (sameb size z z') (d == d') (s == s') (int_eq o o') h in
    λ j. insn.LoadSigned (same_true size tt z z' t.0 j) (eqb-true d d' t.1 j) (eqb-true s s' t.2 j) (signed o o' t.3 j)
alike (insn.MovSigned w b d s) (insn.MovSigned w' b' d' s') h =
    let t = four (sameb width w w') (b == b') (d == d') (s == s') h in
    λ j. insn.MovSigned (same_true width tt w w' t.0 j) (eqb-true b b' t.1 j) (eqb-true d d' t.2 j) (eqb-true s s' t.3 j)
alike (insn.Swap o b d) (insn.Swap o' b' d') h =
    let t = three (sameb order o o') (b == b') (d == d') h in
    λ j. insn.Swap (same_true order tt o o' t.0 j) (eqb-true b b' t.1 j) (eqb-true d d' t.2 j)
alike _ _ h = absurd (let e : false ≡ true = h in cc)

pub same_insn : (a b : Insn) → Decides ((derived.ghosts).eq a b) (a ≡ b)
same_insn a b = (alike a b, λ is. (λ j. (derived.ghosts).eq (is j) b) ∙ laws-law.refl b)
