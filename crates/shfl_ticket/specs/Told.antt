-- What C is told, as numbers.
use Rattle.std.specs.Prelude.{◌≡◌, ℕ, Bool, ◌==◌, cond, Result, Ok, Err}
use Rattle.shfl_line.specs.declared.events.Form.{Form}
use Rattle.shfl_line.specs.declared.events.Form.TheVariants.{Spin, Rw, Park, RwPark}
use Rattle.bpf_isa.specs.declared.insn.Profile.{Profile}
use Rattle.bpf_isa.specs.declared.insn.Profile.TheVariants.{One, Two}
use Rattle.shfl_line.specs.Words.{attr_word}
use Rattle.shfl_core.specs.declared.phase.Ask.{Ask}
use Rattle.shfl_core.specs.declared.phase.Ask.TheVariants.{Nothing, Skip as SkipAsk, Should as ShouldAsk}
use Rattle.shfl_core.specs.declared.phase.Watch.{Watch}
use Rattle.shfl_core.specs.declared.phase.Watch.TheVariants.{Other, Look, Mark, Ready}
use Rattle.shfl_table.specs.declared.outcomes.Outcome.{Outcome}
use Rattle.shfl_table.specs.declared.outcomes.Outcome.TheVariants.{Resting, Advanced, InVain, InVainOpen, GroupedNobody}
use Rattle.shfl_table.specs.Outcomes.{IsOutcome}
use Rattle.shfl_ticket.specs.Tickets.{TicketModel, TakesStep}
use Rattle.bpf_isa.specs.declared.error.IsaError.{IsaError}
use Rattle.bpf_isa.specs.declared.error.IsaError.TheVariants as isa
use Rattle.bpf_verifier.specs.declared.refusal.Refusal.{Refusal}
use Rattle.bpf_verifier.specs.declared.refusal.Refusal.TheVariants as refusal
use Rattle.shfl_policy.specs.declared.error.Hook.{Hook}
use Rattle.shfl_policy.specs.declared.error.Hook.TheVariants.{Should, Skip}
use Rattle.shfl_policy.specs.declared.error.ProgramFault.{ProgramFault}
use Rattle.shfl_policy.specs.declared.error.ProgramFault.TheVariants.{Isa, Refused}
use Rattle.shfl_policy.specs.declared.error.LoadError.{LoadError}
use Rattle.shfl_policy.specs.declared.error.LoadError.TheVariants.{Bad, NoMemory}
use Rattle.shfl_ticket.specs.declared.told.ShflAsk.{ShflAsk}
use Rattle.shfl_ticket.specs.declared.told.ShflWatch.{ShflWatch}
use Rattle.shfl_ticket.specs.declared.told.ShflVerdict.{ShflVerdict}

abbrev pub ask_told : Ask → ShflAsk
ask_told Nothing = record { waiter = 0; batch = 0; kind = 0 }
ask_told (SkipAsk b) = record { waiter = 0; batch = b; kind = 1 }
ask_told (ShouldAsk w b) = record { waiter = attr_word w; batch = b; kind = 2 }

abbrev pub watch_told : Watch → ShflWatch
watch_told Other = record { whom = 0; kind = 0 }
watch_told Look = record { whom = 0; kind = 1 }
watch_told (Mark w) = record { whom = w; kind = 2 }
watch_told (Ready w) = record { whom = w; kind = 3 }

abbrev pub outcome_told : Outcome → ℕ
outcome_told Resting = 0
outcome_told Advanced = 1
outcome_told InVain = 2
outcome_told InVainOpen = 3
outcome_told GroupedNobody = 4

-- a step was made, and this number tells what came of it
abbrev pub ToldAdvance : Bool → TicketModel → TicketModel → ℕ → Type 0
ToldAdvance choice old new number = (s : TakesStep choice old new) × (outcome : Outcome) × IsOutcome old.own s.found new.own outcome × (number ≡ outcome_told outcome)

-- the number of a fault of decoding, its slot and its register; 255 is want of memory
abbrev pub of_decoder : IsaError → ℕ × ℕ × ℕ
of_decoder isa.Empty = (1, 0, 0)
of_decoder isa.OddLength = (2, 0, 0)
of_decoder isa.TooLong = (3, 0, 0)
of_decoder (isa.BadOpcode slot) = (4, slot, 0)
of_decoder (isa.BadRegister slot) = (5, slot, 0)
of_decoder (isa.Reserved slot) = (6, slot, 0)
of_decoder (isa.HalfWide slot) = (7, slot, 0)
of_decoder isa.NoMemory = (255, 0, 0)

-- the same of a fault of verifying
abbrev pub of_verifier : Refusal → ℕ × ℕ × ℕ
of_verifier (refusal.Back slot) = (8, slot, 0)
of_verifier (refusal.OutOfProgram slot) = (9, slot, 0)
of_verifier (refusal.NoValue slot reg) = (10, slot, reg)
of_verifier (refusal.PointerUse slot reg) = (11, slot, reg)
of_verifier (refusal.BadLoad slot) = (12, slot, 0)
of_verifier refusal.NoMemory = (255, 0, 0)

abbrev pub of_program : ProgramFault → ℕ × ℕ × ℕ
of_program (Isa fault) = of_decoder fault
of_program (Refused fault) = of_verifier fault

abbrev pub hook_number : Hook → ℕ
hook_number Should = 0
hook_number Skip = 1

abbrev pub verdict_of : ℕ → ℕ × ℕ × ℕ → ShflVerdict
verdict_of hook f = record { slot = f.1; fault = f.0; hook = hook; register = f.2 }

abbrev pub verdict_told : Result (Unit {0}) LoadError → ShflVerdict
verdict_told (Ok done) = verdict_of 0 (0, 0, 0)
verdict_told (Err NoMemory) = verdict_of 0 (255, 0, 0)
verdict_told (Err (Bad hook fault)) = verdict_of (hook_number hook) (of_program fault)

-- the forms and the profiles by their numbers
abbrev pub form_numbered : ℕ → Form
form_numbered n = cond (n == 0) Spin (cond (n == 1) Rw (cond (n == 2) Park RwPark))

abbrev pub profile_numbered : ℕ → Profile
profile_numbered n = cond (n == 1) One Two
