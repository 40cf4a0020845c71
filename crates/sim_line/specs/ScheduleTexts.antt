-- The first events of a policy's run as a schedule, which `line` reads.
use Rattle.std.specs.Prelude.{ℕ, List, ◌∷◌, ◌++◌, codes, Option, option_map}
use Rattle.std.specs.List.{flat_map}
use Rattle.std.specs.Fmt.{decimal}
use Rattle.bpf_isa.specs.declared.insn.Insn.{Insn}
use Rattle.bpf_isa.specs.declared.insn.Profile.{Profile}
use Rattle.bpf_isa.specs.Encoding.{encoding}
use Rattle.policy_text.specs.Attributes.{attr_line}
use Rattle.policy_text.specs.Headings.{heading_lines}
use Rattle.policy_text.specs.Programs.{program_word}
use Rattle.doc_text.specs.Text.{ended}
use Rattle.shfl_line.specs.declared.words.Attr.{Attr}
use Rattle.shfl_line.specs.declared.events.Form.{Form}
use Rattle.sim_setup.specs.declared.built_in.BuiltIn.{BuiltIn}
use Rattle.sim_setup.specs.declared.built_in.BuiltIn.TheVariants.{Never, Always, Socket}
use Rattle.sim_line.specs.declared.events.Event.{Event}
use Rattle.sim_line.specs.declared.events.Event.TheVariants.{Write, Read, Free, Step}
use Rattle.sim_line.specs.Events.{first_events}
use Rattle.sim_text.specs.declared.setup.Rule.{Rule}
use Rattle.sim_text.specs.declared.setup.Rule.TheVariants.{Simple, Program}
use Rattle.sim_text.specs.Answering.{rule_advice}
use Rattle.lock_words.specs.Forms.{form_text}
use Rattle.sim_report.specs.Endings.{run_setup}
use Rattle.sim_text.specs.Setups.{CandidateModel, SetupModel}

-- the most events of a schedule
abbrev pub most_events : ℕ
most_events = 65536

abbrev pub simple_text : BuiltIn → List ℕ
simple_text Never = codes "policy never\n"
simple_text Always = codes "policy always\n"
simple_text Socket = codes "policy socket\n"

-- a blank and a program: the bytes that it was read from, or `-`
unfoldable pub program_text : Option (List Insn) → List ℕ
program_text program = 32 ∷ program_word (option_map encoding program)

-- `policy program SHOULD SKIP`
unfoldable pub programs_text : Option (List Insn) → Option (List Insn) → List ℕ
programs_text should skip = codes "policy program" ++ program_text should ++ program_text skip ++ codes "\n"

-- a policy line, which has no name in a schedule
abbrev pub rule_text : Rule → List ℕ
rule_text (Simple rule) = simple_text rule
rule_text (Program policy) = programs_text policy.should policy.skip

abbrev pub event_text : Event → List ℕ
event_text (Write p) = codes "write " ++ decimal p ++ codes "\n"
event_text (Read p) = codes "read " ++ decimal p ++ codes "\n"
event_text (Free p) = codes "free " ++ decimal p ++ codes "\n"
event_text (Step p) = codes "step " ++ decimal p ++ codes "\n"

abbrev pub pass_text : Attr → List ℕ
pass_text a = ended (attr_line (codes "pass") a)

-- the two lines of the document's title
unfoldable pub title_text : Profile → List ℕ
title_text profile = flat_map ended (heading_lines (codes "shfl-line") 2 profile)

unfoldable pub lock_text : Form → ℕ → List ℕ
lock_text form limit = codes "form " ++ form_text form ++ codes "\nlimit " ++ decimal limit ++ codes "\n"

-- the lines up to the passes
unfoldable pub front_text : SetupModel → Rule → List ℕ
front_text s rule = title_text s.machine.profile ++ lock_text s.machine.form s.machine.limit ++ rule_text rule

unfoldable pub passes_text : List Attr → List ℕ
passes_text attrs = flat_map pass_text attrs

unfoldable pub events_text : List Event → List ℕ
events_text events = flat_map event_text events

-- the first events of the run of a rule, of several seeds with the first
unfoldable pub run_events : SetupModel → Rule → List Event
run_events s rule = first_events (run_setup s s.load.seeds.first rule) (rule_advice rule) s.load.turns s.passes most_events

-- the lock of the setup with this policy, its passes, and the first events of the run
unfoldable pub schedule_text : SetupModel → CandidateModel → List ℕ
schedule_text s c = front_text s c.rule ++ passes_text s.passes ++ codes "events\n" ++ events_text (run_events s c.rule)
