-- A policy as contracts see it, and what it answers.
use Rattle.std.specs.Prelude.{ℕ, List, Option, Some, None, IfSome, Bool, false, not, ◌==◌}
use Rattle.bpf_isa.specs.declared.insn.Insn.{Insn}
use Rattle.bpf_run.specs.Meaning.{outcome}
use Rattle.bpf_verifier.specs.Acceptance.{IsProgram}
use Rattle.shfl_line.specs.declared.words.Attr.{Attr}
use Rattle.shfl_policy.specs.Context.{context_of}

-- its name and its programs, a list of instructions each
pub record PolicyModel : Type 0 where
  pub name : ℕ
  pub should : Option (List Insn)
  pub skip : Option (List Insn)

-- its programs, where it has them, are of 1 to 512 slots and accepted by the verifier
pub record AreAccepted (policy : PolicyModel) : Type 0 where
  pub should : IfSome policy.should IsProgram
  pub skip : IfSome policy.skip IsProgram

-- a program answers yes where its value isn't 0; a missing one answers no
abbrev pub answer : Option (List Insn) → List ℕ → Bool
answer None context = false
answer (Some insns) context = not ((outcome insns context).value == 0)

-- the waiter of a question that has none
abbrev pub no_waiter : Attr
no_waiter = record { socket = 0; prio = 0; class = 0; kind = 0 }

abbrev pub should_of : PolicyModel → Attr → Attr → ℕ → Bool
should_of policy anchor waiter batch = answer policy.should (context_of anchor waiter batch)

abbrev pub skip_of : PolicyModel → Attr → ℕ → Bool
skip_of policy anchor batch = answer policy.skip (context_of anchor no_waiter batch)
