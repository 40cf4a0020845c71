-- What the code holds, without where it lies in memory.
use Rattle.std.specs.Prelude.{◌≡◌, ℕ, List, [], ◌∷◌, Option, Some, None, Result, Ok, Err}
use Rattle.bpf_asm.specs.declared.operand.Place.{Place}
use Rattle.bpf_asm.specs.declared.operand.Place.TheVariants as held
use Rattle.bpf_asm.specs.declared.operand.ShortPlace.{ShortPlace}
use Rattle.bpf_asm.specs.declared.operand.ShortPlace.TheVariants as short
use Rattle.bpf_asm.specs.declared.statement.Statement.{Statement}
use Rattle.bpf_asm.specs.declared.statement.Statement.TheVariants as said
use Rattle.bpf_asm.specs.declared.assembler.Slots.{Slots}
use Rattle.bpf_asm.specs.declared.assembler.Slots.TheVariants as held_slots
use Rattle.bpf_asm.specs.declared.error.AsmError.{AsmError}
use Rattle.bpf_asm.specs.declared.error.AsmError.TheVariants as errors
use Rattle.bpf_isa.specs.declared.insn.Insn.{Insn}
use Rattle.bpf_asm.specs.Operands as read
use Rattle.bpf_asm.specs.Statements as line
use Rattle.bpf_isa.specs.declared.insn.Insn.TheVariants as insn
use Rattle.doc_text.specs.Words.{words}
use denote.Ref.{Bor}

abbrev pub place_of : Place → read.Place
place_of (held.By off) = read.Place.By off
place_of (held.To name) = read.Place.To name.now

-- the result is the one due
abbrev pub IsPlaceOf : Result Place ℕ → Result read.Place ℕ → Type 0
IsPlaceOf (Ok place) due = due ≡ Ok (place_of place)
IsPlaceOf (Err fault) due = due ≡ Err fault

abbrev pub short_place_of : ShortPlace → read.Place
short_place_of (short.By off) = read.Place.By off
short_place_of (short.To name) = read.Place.To name.now

abbrev pub IsShortPlaceOf : Result ShortPlace ℕ → Result read.Place ℕ → Type 0
IsShortPlaceOf (Ok place) due = due ≡ Ok (short_place_of place)
IsShortPlaceOf (Err fault) due = due ≡ Err fault

abbrev pub statement_of : Statement → line.Statement
statement_of (said.Name name) = line.Statement.Name name.now
statement_of (said.One x) = line.Statement.Code (x ∷ [])
statement_of (said.Wide dst low high) = line.Statement.Code (insn.Wide dst low high ∷ insn.Half ∷ [])
statement_of (said.JumpTo x name) = line.Statement.JumpTo x name.now

-- what was read of a line
abbrev pub line_of : Result Statement ℕ → Result line.Statement ℕ
line_of (Ok s) = Ok (statement_of s)
line_of (Err fault) = Err fault

-- the result is the one due
abbrev pub Says : Result Statement ℕ → Result line.Statement ℕ → Type 0
Says (Ok s) due = due ≡ Ok (statement_of s)
Says (Err fault) due = due ≡ Err fault

-- the words of the text behind the first one, where there is such a text
abbrev pub words_behind : Option (Bor (List ℕ)) → List (List ℕ)
words_behind None = []
words_behind (Some rest) = words rest.now

abbrev pub slots_held : Slots → List Insn
slots_held held_slots.Nothing = []
slots_held (held_slots.One x) = x ∷ []
slots_held (held_slots.Two x y) = x ∷ y ∷ []

-- the result is the one due
abbrev pub GivesSlots : Result Slots ℕ → Result (List Insn) ℕ → Type 0
GivesSlots (Ok slots) due = due ≡ Ok (slots_held slots)
GivesSlots (Err fault) due = due ≡ Err fault

-- the error is the one due, or memory ran out
abbrev pub Fails : AsmError → Result (List Insn) AsmError → Type 0
Fails errors.NoMemory due = Unit {0}
Fails (errors.Format line what) due = due ≡ Err (errors.Format line what)

-- the result, seen by view, is the one due, unless memory ran out
abbrev pub Gives : {X : Type 0} → (X → List Insn) → Result X AsmError → Result (List Insn) AsmError → Type 0
Gives view (Ok x) due = due ≡ Ok (view x)
Gives view (Err e) due = Fails e due
