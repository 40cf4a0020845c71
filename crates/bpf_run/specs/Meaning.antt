-- What raw slots compute on a context: the value of register 0 at the exit, and how many instructions are run.
use Rattle.std.specs.Prelude.{ℕ, ℤ, pos, zero, suc, ◌+◌, ◌/◌, List, [], ◌∷◌, length}
use Rattle.bpf_isa.specs.declared.raw.Raw.{Raw}
use Rattle.bpf_isa.specs.declared.insn.Insn.{Insn}
use Rattle.bpf_isa.specs.Slots.{raw_at}
use Rattle.bpf_isa.specs.Encoding.{encoding}
use Rattle.bpf_run.specs.declared.flow.Flow.{Flow}
use Rattle.bpf_run.specs.declared.flow.Flow.TheVariants.{Past, End}
use Rattle.bpf_run.specs.Slots.{registers_after, flow_after}

pub record Outcome : Type 0 where
  pub value : ℕ
  pub count : ℕ

abbrev pub one_more : Outcome → Outcome
one_more outcome = record { value = outcome.value; count = outcome.count + 1 }

-- an instruction is run: it is the last, or the run goes on behind it
abbrev pub going : Flow → (ℕ → Outcome) → Outcome
going (End value) further = record { value = value; count = 1 }
going (Past skip) further = one_more (further skip)

-- the immediate number of the first slot
abbrev pub first_number : List Raw → ℤ
first_number [] = pos 0
first_number (raw ∷ slots) = raw.imm

-- the slots that remain, the first so many of them passed over; past the end the value is 0
abbrev pub meaning : ℕ → List Raw → List ℕ → List ℕ → Outcome
meaning skip [] context regs = record { value = 0; count = 0 }
meaning (suc skip) (raw ∷ slots) context regs = meaning skip slots context regs
meaning zero (raw ∷ slots) context regs = going (flow_after raw regs) (λ skip. meaning skip slots context (registers_after raw (first_number slots) context regs))

-- the ten registers at the start: the context begins at address 0, and the others are never read before they are written
abbrev pub at_start : List ℕ
at_start = 0 ∷ 0 ∷ 0 ∷ 0 ∷ 0 ∷ 0 ∷ 0 ∷ 0 ∷ 0 ∷ 0 ∷ []

-- so many slots of the bytes, from this one on
abbrev pub raw_slots : List ℕ → ℕ → ℕ → List Raw
raw_slots bytes slot zero = []
raw_slots bytes slot (suc left) = raw_at bytes slot ∷ raw_slots bytes (slot + 1) left

-- what a program's bytes compute on a context
abbrev pub outcome_of_bytes : List ℕ → List ℕ → Outcome
outcome_of_bytes bytes context = meaning 0 (raw_slots bytes 0 (length bytes / 8)) context at_start

-- what a program computes: its bytes are those that it was decoded from
abbrev pub outcome : List Insn → List ℕ → Outcome
outcome insns context = outcome_of_bytes (encoding insns) context
