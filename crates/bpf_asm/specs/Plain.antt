-- Texts without names.
use Rattle.std.specs.Prelude.{ℕ, List, Ok, Err}
use Rattle.std.specs.List.{AllByRecursion}
use Rattle.bpf_isa.specs.declared.insn.Profile.{Profile}
use Rattle.bpf_asm.specs.Assembly.{Line, lines_in}
use Rattle.bpf_asm.specs.Statements.{Statement}

-- the line neither declares a name nor leads to one
abbrev pub HasNoName : Line → Type 0
HasNoName (Err fault) = Unit {0}
HasNoName (Ok (Statement.Name name)) = ⊥
HasNoName (Ok (Statement.Code code)) = Unit {0}
HasNoName (Ok (Statement.JumpTo x name)) = ⊥

abbrev pub HasNoNames : Profile → List ℕ → Type 0
HasNoNames p text = AllByRecursion HasNoName (lines_in p text)
