-- The report of a setup over several seeds: how far each figure spreads, and how each policy fares beside the first.
use Rattle.std.specs.Prelude.{ℕ, ◌+◌, ◌-◌, List, [], ◌∷◌, ◌++◌, length, map, codes, nat_lt, count_by, zip, slice_index_or}
use Rattle.std.specs.List.{flat_map}
use Rattle.std.specs.Fmt.{decimal}
use Rattle.sim_text.specs.Setups.{CandidateModel, SetupModel}
use Rattle.sim_report.specs.declared.figures.Figure.{Figure}
use Rattle.sim_report.specs.declared.figures.Line.{Line}
use Rattle.sim_report.specs.Figures.{name_of, figures_of, lines_of, all_figures}
use Rattle.sim_report.specs.Reports.{title_text, sizes_text, name_text, lead_text}
use Rattle.sim_report.specs.Tallies.{rising, half_of}

-- ---- one figure of several runs

-- a figure of all the runs
abbrev pub column : List (List ℕ) → ℕ → List ℕ
column runs i = map (λ figures. slice_index_or figures i 0) runs

abbrev pub least_of : List ℕ → ℕ
least_of ns = slice_index_or ns 0 0

abbrev pub last_of : List ℕ → ℕ
last_of ns = slice_index_or ns (length ns - 1) 0

-- ` least A middle B most C`, of numbers in rising order
unfoldable pub spread_text : List ℕ → List ℕ
spread_text ns = codes " least " ++ decimal (least_of ns) ++ codes " middle " ++ decimal (half_of ns) ++ codes " most " ++ decimal (last_of ns)
    ++ codes "\n"

-- `NAME least A middle B most C`: the figure that stands there
unfoldable pub figure_spread : Line → Figure → List (List ℕ) → ℕ → List ℕ
figure_spread line f runs at = lead_text line ++ name_of f ++ spread_text (rising (column runs at))

-- ---- all figures, one behind the other

abbrev pub figures_spread : Line → List (List ℕ) → ℕ → List Figure → List ℕ
figures_spread line runs at [] = []
figures_spread line runs at (f ∷ fs) = figure_spread line f runs at ++ figures_spread line runs (at + 1) fs

abbrev pub lines_spread : List (List ℕ) → ℕ → List Line → List ℕ
lines_spread runs at [] = []
lines_spread runs at (line ∷ lines) = figures_spread line runs at (figures_of line) ++ lines_spread runs (at + length (figures_of line)) lines

-- the runs of a policy
unfoldable pub runs_text : List ℕ → List Line → List (List ℕ) → List ℕ
runs_text name lines runs = name_text name ++ lines_spread runs 0 lines

-- ---- the verdict

-- in how many runs the one gains more than the other with the same seed
abbrev pub wins : List ℕ → List ℕ → ℕ
wins own other = count_by (λ pair. nat_lt pair.1 pair.0) (zip own other)

-- `better K worse L of S`: in how many of the runs it gains more than the first policy, and in how many less; the gains are the first figure
unfoldable pub verdict_text : List (List ℕ) → List (List ℕ) → List ℕ
verdict_text base own = codes "better " ++ decimal (wins (column own 0) (column base 0))
    ++ codes " worse " ++ decimal (wins (column base 0) (column own 0)) ++ codes " of " ++ decimal (length own) ++ codes "\n"

-- ---- the whole

unfoldable pub seeds_text : ℕ → ℕ → ℕ → List ℕ
seeds_text until first count = codes " until " ++ decimal until ++ codes " seeds " ++ decimal first ++ codes " " ++ decimal count ++ codes "\n"

-- `syncord-sim 1 form F limit N passes P until T seeds FIRST COUNT`
unfoldable pub spread_heading : SetupModel → List ℕ
spread_heading s = title_text ++ sizes_text s.machine.form s.machine.limit (length s.passes)
    ++ seeds_text s.load.until s.load.seeds.first s.load.seeds.count

-- the runs of a policy beside those of the first
unfoldable pub beside_text : SetupModel → List (List ℕ) → CandidateModel → List ℕ
beside_text s base c = runs_text c.name (lines_of s.load.queueing s.passes) (all_figures s c.rule) ++ verdict_text base (all_figures s c.rule)

abbrev pub policies_text : SetupModel → List CandidateModel → List ℕ
policies_text s [] = []
policies_text s (c ∷ cs) = runs_text c.name (lines_of s.load.queueing s.passes) (all_figures s c.rule) ++ flat_map (beside_text s (all_figures s c.rule)) cs

unfoldable pub spreads_text : SetupModel → List ℕ
spreads_text s = spread_heading s ++ policies_text s s.policies ++ codes "end\n"
