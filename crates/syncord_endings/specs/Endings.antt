-- How a command ends: its status, what it read and wrote, and the line on the error stream.
use Rattle.std.specs.Prelude.{◌≡◌, ◌⊎◌, ◌<◌, ◌≤◌, ℕ, List, [], ◌++◌, length, take, Some, codes}
use Rattle.std.specs.Fmt.{decimal}
use Rattle.syn_outer.specs.Bytes.{ReadsWhole, ConsumesMoreThan, ConsumesAtMost}
use Rattle.syncord_endings.specs.declared.ending.Ending.{Ending}
use Rattle.syncord_endings.specs.declared.ending.Ending.TheVariants.{Done, NoReport, TooLarge, ReadFault, WriteFault}
use Rattle.syncord_endings.specs.declared.ending.Refusal.{Refusal}
use Rattle.syncord_endings.specs.declared.ending.Refusal.TheVariants.{Line, Program, Slot, Register, NoMemory}
use Rattle.syncord_endings.specs.Traffic.{Traffic, Failed, Sound, Takes, Told}

abbrev pub status_of_refusal : Refusal → ℕ
status_of_refusal (Line line what) = 1
status_of_refusal (Program number) = 6
status_of_refusal (Slot number slot) = 6
status_of_refusal (Register number slot register) = 6
status_of_refusal NoMemory = 5

abbrev pub status_of : Ending → ℕ
status_of Done = 0
status_of (NoReport refusal) = status_of_refusal refusal
status_of TooLarge = 1
status_of ReadFault = 3
status_of (WriteFault written) = 4

-- a refusal's line begins with the name of the program
abbrev pub refused : List ℕ → ℕ → List ℕ
refused program number = program ++ codes ": refused " ++ decimal number

abbrev pub at_slot : List ℕ → ℕ → List ℕ
at_slot text slot = text ++ codes " at slot " ++ decimal slot

abbrev pub refusal_message : List ℕ → Refusal → List ℕ
refusal_message program (Line line what) =
    program ++ codes ": line " ++ decimal line ++ codes ": fault " ++ decimal what ++ codes "\n"
refusal_message program (Program number) = refused program number ++ codes "\n"
refusal_message program (Slot number slot) = at_slot (refused program number) slot ++ codes "\n"
refusal_message program (Register number slot register) =
    at_slot (refused program number) slot ++ codes " register " ++ decimal register ++ codes "\n"
refusal_message program NoMemory = []

-- the line on the error stream, of a program of this name
abbrev pub message_by : List ℕ → Ending → List ℕ
message_by program Done = []
message_by program (NoReport refusal) = refusal_message program refusal
message_by program TooLarge = program ++ codes ": input too large\n"
message_by program ReadFault = program ++ codes ": read fault\n"
message_by program (WriteFault written) =
    program ++ codes ": write fault after " ++ decimal written ++ codes " bytes\n"

-- the same of `syncord`
abbrev pub message_of : Ending → List ℕ
message_of ending = message_by (codes "syncord") ending

-- the largest input
abbrev pub most_bytes : ℕ
most_bytes = 16777216

-- all that the source had left was read
abbrev pub Reads : Traffic → List ℕ → Type 0
Reads input bytes = ReadsWhole most_bytes input.before input.after bytes

-- a command ended before it had its input: it took more than the limit, or the input failed, or memory ran out
abbrev pub EndsUnread : Traffic → Ending → Type 0
EndsUnread input TooLarge = ConsumesMoreThan most_bytes input.before input.after × Sound input
EndsUnread input ReadFault = ConsumesAtMost most_bytes input.before input.after × Failed input
EndsUnread input (NoReport NoMemory) = ConsumesAtMost most_bytes input.before input.after × Sound input
EndsUnread input ending = ⊥

-- a command has written this text whole and is done, or the output failed behind a front of it
abbrev pub Delivers : List ℕ → Traffic → Ending → Type 0
Delivers text output Done = Takes output text
Delivers text output (WriteFault written) = Takes output (take written text) × (written < length text) × Failed output
Delivers text output ending = ⊥

-- the refusal is one of these bytes; want of memory is free
abbrev pub Due : (Refusal → Type 0) → Refusal → Type 0
Due P NoMemory = Unit {0}
Due P refusal = P refusal

-- all was read and is refused so, or memory ran out
abbrev pub EndsRefused : (List ℕ → Refusal → Type 0) → Traffic → Refusal → Type 0
EndsRefused refuses input NoMemory = Unit {0}
EndsRefused refuses input refusal = (bytes : List ℕ) × Reads input bytes × refuses bytes refusal

-- at each ending of a command that reports and refuses so: what was read and written, and the fault that it needs
abbrev pub Ends : (List ℕ → List ℕ → Type 0) → (List ℕ → Refusal → Type 0) → Traffic → Traffic → Ending → Type 0
Ends reports refuses input output Done =
    (bytes : List ℕ) × (text : List ℕ) × Reads input bytes × reports bytes text × Takes output text
Ends reports refuses input output (NoReport refusal) = EndsRefused refuses input refusal × Takes output []
Ends reports refuses input output TooLarge = ConsumesMoreThan most_bytes input.before input.after × Takes output []
Ends reports refuses input output ReadFault = Failed input × Takes output []
Ends reports refuses input output (WriteFault written) = (bytes : List ℕ) × (text : List ℕ) × Reads input bytes
    × reports bytes text × Takes output (take written text) × (written < length text) × Failed output

-- a status has an ending behind it, and the error stream was told that by a program of this name
abbrev pub AnswersAs : List ℕ → (List ℕ → List ℕ → Type 0) → (List ℕ → Refusal → Type 0)
    → Traffic → Traffic → Traffic → ℕ → Type 0
AnswersAs program reports refuses input output error status =
    (e : Ending) × (status ≡ status_of e) × Ends reports refuses input output e × Told error (message_by program e)

-- the same of `syncord`
abbrev pub Answers : (List ℕ → List ℕ → Type 0) → (List ℕ → Refusal → Type 0) → Traffic → Traffic → Traffic → ℕ → Type 0
Answers reports refuses input output error status =
    AnswersAs (codes "syncord") reports refuses input output error status

-- where nothing fails and there is no more than the limit, the bytes are reported or refused, or memory runs out
abbrev pub Decides : (List ℕ → Refusal → Type 0) → Traffic → Traffic → ℕ → Type 0
Decides refuses input output status = (bytes : List ℕ) → input.before ≡ Some bytes → length bytes ≤ most_bytes
    → ¬ (Failed input) → ¬ (Failed output)
    → (status ≡ 0) ⊎ (status ≡ 5) ⊎ ((r : Refusal) × (status ≡ status_of_refusal r) × refuses bytes r)

-- a command with these reports and refusals is done, or ends otherwise with its cause; and where nothing fails and memory
-- is found, the input is reported or refused
pub record Performs (reports : List ℕ → List ℕ → Type 0) (refuses : List ℕ → Refusal → Type 0)
    (input output error : Traffic) (status : ℕ) : Type 0 where
  pub answer : Answers reports refuses input output error status
  pub complete : Decides refuses input output status
