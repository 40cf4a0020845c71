-- Codes in opcodes and what they stand for.
use Rattle.std.proofs.Common.{◌≡◌, ℕ, ◌<◌, Bool, true, ◌==◌, Option, Some, None, refl, sym, ap, ◌∙◌}
use Rattle.std.proofs.lemmas.Bool.{agree_below_at, eqb-true}
use Rattle.bpf_isa.specs.declared.insn.AluOp.{AluOp}
use Rattle.bpf_isa.specs.declared.insn.Cond.{Cond}
use Rattle.bpf_isa.specs.Table.{alu_op, condition_of}
use Rattle.bpf_isa.specs.Encoding.{alu_code, condition_code}

abbrev stands_for : {A : Type 0} → (A → ℕ) → ℕ → Option A → Bool
stands_for code n None = true
stands_for code n (Some a) = code a == n

-- an operation has the code that it was found by
pub alu_code-alu_op : (code : ℕ) (op : AluOp) → code < 16 → alu_op code ≡ Some op → alu_code op ≡ code
alu_code-alu_op code op lt e = eqb-true (alu_code op) code (ap (stands_for alu_code code) (sym e) ∙ agree_below_at (λ n. stands_for alu_code n (alu_op n)) (λ _. true) 16 code refl lt)

-- a condition has the code that it was found by
pub condition_code-condition_of : (code : ℕ) (c : Cond) → code < 16 → condition_of code ≡ Some c → condition_code c ≡ code
condition_code-condition_of code c lt e = eqb-true (condition_code c) code (ap (stands_for condition_code code) (sym e) ∙ agree_below_at (λ n. stands_for condition_code n (condition_of n)) (λ _. true) 16 code refl lt)
