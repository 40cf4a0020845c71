-- The figures of a run: the one list of them, from which the report, the table over several seeds and the picture are made.
use Rattle.std.specs.Prelude.{ℕ, zero, suc, ◌+◌, List, [], ◌∷◌, ◌++◌, cond, map, codes}
use Rattle.std.specs.List.{flat_map}
use Rattle.shfl_line.specs.declared.words.Attr.{Attr}
use Rattle.sim_model.specs.declared.counts.Counts.{Counts}
use Rattle.sim_model.specs.declared.counts.Reaches.{Reaches}
use Rattle.sim_text.specs.declared.setup.Queueing.{Queueing}
use Rattle.sim_text.specs.declared.setup.Queueing.TheVariants.{AtOnce}
use Rattle.sim_text.specs.declared.setup.Rule.{Rule}
use Rattle.sim_text.specs.Setups.{SetupModel}
use Rattle.sim_report.specs.declared.figures.Figure.{Figure}
use Rattle.sim_report.specs.declared.figures.Figure.TheVariants as figure
use Rattle.sim_report.specs.declared.figures.Line.{Line}
use Rattle.sim_report.specs.declared.figures.Line.TheVariants as line
use Rattle.sim_report.specs.declared.figures.Told.{Told}
use Rattle.sim_report.specs.declared.tallies.Key.{Key}
use Rattle.sim_report.specs.declared.tallies.Key.TheVariants.{All, Socket, Prio, Class}
use Rattle.sim_report.specs.declared.tallies.Tally.{Tally}
use Rattle.sim_report.specs.Endings.{EndedModel, ended}
use Rattle.sim_report.specs.Tallies.{tally_in, values_of, half_of, most_of}

-- ---- the list

-- what each is called
abbrev pub name_of : Figure → List ℕ
name_of figure.Gained = codes "gained"
name_of figure.Reads = codes "reads"
name_of figure.Stolen = codes "stolen"
name_of figure.Same = codes "same"
name_of figure.Steps = codes "steps"
name_of figure.Rounds = codes "rounds"
name_of figure.Asked = codes "asked"
name_of figure.Yes = codes "yes"
name_of figure.Insns = codes "insns"
name_of figure.Relinks = codes "relinks"
name_of figure.Parks = codes "parks"
name_of figure.Rings = codes "rings"
name_of figure.Hits = codes "hits"
name_of figure.Near = codes "near"
name_of figure.Far = codes "far"
name_of figure.Waited = codes "waited"
name_of figure.Half = codes "half"
name_of figure.Most = codes "most"
name_of figure.Longest = codes "longest"
name_of figure.Overtaken = codes "overtaken"
name_of figure.Cut = codes "cut"

-- how each is read off what its line tells of; the cut is 1 for a run that had turns left
abbrev pub value_of : Told → Figure → ℕ
value_of t figure.Gained = t.tally.gained
value_of t figure.Reads = t.tally.reads
value_of t figure.Stolen = t.tally.stolen
value_of t figure.Same = t.same
value_of t figure.Steps = t.counts.steps
value_of t figure.Rounds = t.counts.rounds
value_of t figure.Asked = t.counts.asked
value_of t figure.Yes = t.counts.yes
value_of t figure.Insns = t.counts.insns
value_of t figure.Relinks = t.counts.relinks
value_of t figure.Parks = t.counts.parks
value_of t figure.Rings = t.counts.rings
value_of t figure.Hits = t.accesses.hits
value_of t figure.Near = t.accesses.near
value_of t figure.Far = t.accesses.far
value_of t figure.Waited = t.tally.waited
value_of t figure.Half = t.half
value_of t figure.Most = t.most
value_of t figure.Longest = t.tally.longest
value_of t figure.Overtaken = t.tally.overtaken
value_of t figure.Cut = cond t.cut 1 0

-- in which line each stands, and in which order
abbrev pub figures_of : Line → List Figure
figures_of line.Gains = figure.Gained ∷ figure.Reads ∷ figure.Stolen ∷ figure.Same ∷ []
figures_of line.Work = figure.Steps ∷ figure.Rounds ∷ figure.Asked ∷ figure.Yes ∷ figure.Insns ∷ figure.Relinks ∷ figure.Parks ∷ figure.Rings ∷ []
figures_of line.Lock = figure.Hits ∷ figure.Near ∷ figure.Far ∷ []
figures_of line.Tail = figure.Hits ∷ figure.Near ∷ figure.Far ∷ []
figures_of line.Node = figure.Hits ∷ figure.Near ∷ figure.Far ∷ []
figures_of line.Data = figure.Hits ∷ figure.Near ∷ figure.Far ∷ []
figures_of line.Tried = figure.Hits ∷ figure.Near ∷ figure.Far ∷ []
figures_of line.Waits = figure.Waited ∷ figure.Half ∷ figure.Most ∷ figure.Longest ∷ []
figures_of line.Ends = figure.Cut ∷ []
figures_of (line.Passes key value) = figure.Gained ∷ figure.Waited ∷ figure.Longest ∷ figure.Overtaken ∷ []

-- a line for each value that passes have, in rising order
abbrev pub passes_lines : Key → List Attr → List Line
passes_lines key attrs = map (λ value. line.Passes key value) (values_of key attrs)

-- attempts in vain have a line where the setup says how often its calls try
abbrev pub tried_lines : Queueing → List Line
tried_lines AtOnce = []
tried_lines queueing = line.Tried ∷ []

-- the lines of passes with these attributes
abbrev pub lines_of : Queueing → List Attr → List Line
lines_of queueing attrs = (line.Gains ∷ line.Work ∷ line.Lock ∷ line.Tail ∷ line.Node ∷ line.Data ∷ []) ++ tried_lines queueing
    ++ (line.Waits ∷ line.Ends ∷ []) ++ passes_lines Socket attrs ++ passes_lines Prio attrs ++ passes_lines Class attrs

-- ---- what a line tells of

-- all passes together, whose gains are those of the order
abbrev pub all_told : EndedModel → List Attr → Tally
all_told e attrs = let t = tally_in All 0 e.time attrs e.bench.served in
    record { gained = e.bench.order.gained; reads = t.reads; stolen = t.stolen; waited = t.waited; longest = t.longest; overtaken = t.overtaken }

-- the passes that a line tells of: those with its value, else all
abbrev pub tally_told : EndedModel → List Attr → Line → Tally
tally_told e attrs (line.Passes key value) = tally_in key value e.time attrs e.bench.served
tally_told e attrs _ = all_told e attrs

abbrev pub no_accesses : Reaches
no_accesses = record { hits = 0; near = 0; far = 0 }

-- the accesses that a line tells of
abbrev pub accesses_told : Counts → Line → Reaches
accesses_told c line.Lock = c.lock
accesses_told c line.Tail = c.tail
accesses_told c line.Node = c.node
accesses_told c line.Data = c.«data»
accesses_told c line.Tried = c.tried
accesses_told c _ = no_accesses

abbrev pub told_of : EndedModel → List Attr → Line → Told
told_of e attrs line = record {
  tally = tally_told e attrs line;
  accesses = accesses_told e.bench.counts line;
  same = e.bench.order.same;
  counts = e.bench.counts;
  half = half_of e.waits;
  most = most_of e.waits;
  cut = e.cut;
}

-- ---- the figures of a policy's runs

unfoldable pub line_figures : EndedModel → List Attr → Line → List ℕ
line_figures e attrs line = map (value_of (told_of e attrs line)) (figures_of line)

-- those of its run with one seed
unfoldable pub run_figures : SetupModel → Rule → ℕ → List ℕ
run_figures s rule seed = flat_map (line_figures (ended s seed rule) s.passes) (lines_of s.load.queueing s.passes)

-- those of its runs with so many seeds, from the first on
abbrev pub figures_below : SetupModel → Rule → ℕ → List (List ℕ)
figures_below s rule zero = []
figures_below s rule (suc n) = figures_below s rule n ++ run_figures s rule (s.load.seeds.first + n) ∷ []

-- those of all its runs
abbrev pub all_figures : SetupModel → Rule → List (List ℕ)
all_figures s rule = figures_below s rule s.load.seeds.count
