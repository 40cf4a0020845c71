-- How a command ends, by what came of its input and of its report.
use Rattle.std.proofs.Common.{ℕ, List, []}
use Rattle.syncord_endings.specs.declared.ending.Ending.{Ending}
use Rattle.syncord_endings.specs.declared.ending.Ending.TheVariants.{Done, NoReport, TooLarge, ReadFault, WriteFault}
use Rattle.syncord_endings.specs.declared.ending.Refusal.{Refusal}
use Rattle.syncord_endings.specs.declared.ending.Refusal.TheVariants.{Line, Program, Slot, Register, NoMemory}
use Rattle.syncord_endings.specs.Endings.{Reads, EndsUnread, Delivers, Ends}
use Rattle.syncord_endings.specs.Traffic.{Traffic, Takes}

-- one that has no input has written nothing
pub ends_unread : (reports : List ℕ → List ℕ → Type 0) (refuses : List ℕ → Refusal → Type 0) (input output : Traffic) (e : Ending)
    → EndsUnread input e → Takes output [] → Ends reports refuses input output e
ends_unread reports refuses input output Done unread nothing = absurd unread
ends_unread reports refuses input output (NoReport NoMemory) unread nothing = (tt, nothing)
ends_unread reports refuses input output (NoReport (Line line what)) unread nothing = absurd unread
ends_unread reports refuses input output (NoReport (Program number)) unread nothing = absurd unread
ends_unread reports refuses input output (NoReport (Slot number slot)) unread nothing = absurd unread
ends_unread reports refuses input output (NoReport (Register number slot register)) unread nothing = absurd unread
ends_unread reports refuses input output TooLarge unread nothing = (unread.0, nothing)
ends_unread reports refuses input output ReadFault unread nothing = (unread.1, nothing)
ends_unread reports refuses input output (WriteFault written) unread nothing = absurd unread

-- one that has a report of its input hands it over
pub ends_delivered : (reports : List ℕ → List ℕ → Type 0) (refuses : List ℕ → Refusal → Type 0) (input output : Traffic) (bytes text : List ℕ)
    (e : Ending) → Reads input bytes → reports bytes text → Delivers text output e → Ends reports refuses input output e
ends_delivered reports refuses input output bytes text Done read made given = (bytes, text, read, made, given)
ends_delivered reports refuses input output bytes text (NoReport refusal) read made given = absurd given
ends_delivered reports refuses input output bytes text TooLarge read made given = absurd given
ends_delivered reports refuses input output bytes text ReadFault read made given = absurd given
ends_delivered reports refuses input output bytes text (WriteFault written) read made given = (bytes, text, read, made, given.0, given.1, given.2)
