-- The report of a setup: a heading, and for each policy what its run came to.
use Rattle.std.specs.Prelude.{ℕ, List, [], ◌∷◌, ◌++◌, Bool, true, false, cond, length, map, min, take, codes}
use Rattle.std.specs.List.{flat_map}
use Rattle.std.specs.Fmt.{decimal}
use Rattle.std.specs.Int.{w64, to_be_bytes}
use Rattle.hex.specs.Hex.{encode_lower}
use Rattle.lock_words.specs.Forms.{form_text}
use Rattle.shfl_line.specs.declared.events.Form.{Form}
use Rattle.shfl_line.specs.declared.words.Attr.{Attr}
use Rattle.sim_model.specs.declared.counts.Order.{Order}
use Rattle.sim_report.specs.declared.figures.Figure.{Figure}
use Rattle.sim_report.specs.declared.figures.Line.{Line}
use Rattle.sim_report.specs.declared.figures.Line.TheVariants as line
use Rattle.sim_report.specs.declared.figures.Told.{Told}
use Rattle.sim_report.specs.declared.tallies.Key.{Key}
use Rattle.sim_report.specs.declared.tallies.Key.TheVariants.{All, Socket, Prio, Class}
use Rattle.sim_text.specs.Setups.{CandidateModel, SetupModel}
use Rattle.sim_report.specs.Endings.{EndedModel, ended}
use Rattle.sim_report.specs.Figures.{name_of, value_of, figures_of, lines_of, told_of}

abbrev pub title_text : List ℕ
title_text = codes "syncord-sim 1"

unfoldable pub sizes_text : Form → ℕ → ℕ → List ℕ
sizes_text form limit passes = codes " form " ++ form_text form ++ codes " limit " ++ decimal limit ++ codes " passes " ++ decimal passes

unfoldable pub ends_text : ℕ → ℕ → List ℕ
ends_text until seed = codes " until " ++ decimal until ++ codes " seed " ++ decimal seed ++ codes "\n"

-- `syncord-sim 1 form F limit N passes P until T seed S`
abbrev pub heading_text : SetupModel → List ℕ
heading_text s = title_text ++ sizes_text s.machine.form s.machine.limit (length s.passes) ++ ends_text s.load.until s.load.seeds.first

-- `policy NAME`
unfoldable pub name_text : List ℕ → List ℕ
name_text name = codes "policy " ++ name ++ codes "\n"

-- `cut after N turns at T`, where a run had turns left: the next would have come at T
unfoldable pub cut_text : Bool → ℕ → ℕ → List ℕ
cut_text cut turns time = cond cut (codes "cut after " ++ decimal turns ++ codes " turns at " ++ decimal time ++ codes "\n") []

-- ---- the lines of figures

abbrev pub key_text : Key → List ℕ
key_text All = codes "all"
key_text Socket = codes "socket"
key_text Prio = codes "prio"
key_text Class = codes "class"

unfoldable pub value_text : Key → ℕ → List ℕ
value_text key value = key_text key ++ codes " " ++ decimal value ++ codes " "

-- what a line begins with, before its figures: of which word, or of which passes it tells
abbrev pub lead_text : Line → List ℕ
lead_text line.Lock = codes "lock "
lead_text line.Tail = codes "tail "
lead_text line.Node = codes "node "
lead_text line.Data = codes "data "
lead_text line.Tried = codes "tried "
lead_text (line.Passes key value) = value_text key value
lead_text _ = []

-- `NAME N`
unfoldable pub figure_text : Told → Figure → List ℕ
figure_text t f = name_of f ++ codes " " ++ decimal (value_of t f)

-- figures parted by blanks
abbrev pub figures_text : Told → List Figure → List ℕ
figures_text t [] = []
figures_text t (f ∷ fs) = figure_text t f ++ flat_map (λ f. 32 ∷ figure_text t f) fs

unfoldable pub line_text : Told → Line → List ℕ
line_text t line = lead_text line ++ figures_text t (figures_of line) ++ codes "\n"

-- that a run was cut stands at its head, so its line is one of the table over several seeds alone
abbrev pub is_of_table : Line → Bool
is_of_table line.Ends = true
is_of_table _ = false

abbrev pub told_text : EndedModel → List Attr → Line → List ℕ
told_text e attrs line = cond (is_of_table line) [] (line_text (told_of e attrs line) line)

-- ---- the order

-- the parts behind the first, each behind a comma
abbrev pub more_parts : List (List ℕ) → List ℕ
more_parts parts = flat_map (λ part. 44 ∷ part) parts

-- parts with commas between them, or a dash where there is none
abbrev pub listed : List (List ℕ) → List ℕ
listed [] = codes "-"
listed (part ∷ parts) = part ++ more_parts parts

-- `order HASH P,P,..`: the hash of all gains, and the first sixteen
unfoldable pub order_text : Order → List ℕ
order_text o = codes "order " ++ encode_lower (to_be_bytes w64 o.hash) ++ codes " " ++ listed (map decimal (take (min 16 o.gained) o.first)) ++ codes "\n"

-- ---- the whole

-- a policy's name, whether its run was cut, and what it came to
unfoldable pub run_text : SetupModel → List ℕ → EndedModel → List ℕ
run_text s name e = name_text name ++ cut_text e.cut s.load.turns e.time ++ flat_map (told_text e s.passes) (lines_of s.load.queueing s.passes)
    ++ order_text e.bench.order

abbrev pub policy_text : SetupModel → CandidateModel → List ℕ
policy_text s c = run_text s c.name (ended s s.load.seeds.first c.rule)

-- the report of a setup, of several seeds with the first
unfoldable pub single_text : SetupModel → List ℕ
single_text s = heading_text s ++ flat_map (policy_text s) s.policies ++ codes "end\n"
