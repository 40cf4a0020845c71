-- The picture of a setup: the gains of each policy, and the longest wait by socket.
use Rattle.std.specs.Prelude.{ℕ, ◌+◌, ◌*◌, List, ◌++◌, length, map, codes}
use Rattle.std.specs.List.{flat_map}
use Rattle.std.specs.Fmt.{decimal}
use Rattle.sim_report.specs.declared.figures.Figure.TheVariants as figure
use Rattle.sim_report.specs.declared.figures.Line.TheVariants as line
use Rattle.sim_report.specs.declared.tallies.Key.TheVariants.{Socket}
use Rattle.sim_report.specs.Endings.{EndedModel, ended}
use Rattle.sim_report.specs.Figures.{value_of, told_of}
use Rattle.sim_report.specs.Tallies.{values_of}
use Rattle.sim_text.specs.Setups.{CandidateModel, SetupModel}
use Rattle.sim_chart.specs.Bars.{BarModel, chart_text}
use Rattle.sim_chart.specs.Shapes.{text_at, text_end}

abbrev pub bar : List ℕ → ℕ → BarModel
bar label amount = record { label = label; amount = amount }

-- how the run of a policy ends, of several seeds with the first
abbrev pub first_end : SetupModel → CandidateModel → EndedModel
first_end s c = ended s s.load.seeds.first c.rule

-- the gains of all passes in a run that ended so
abbrev pub gains_bar : SetupModel → List ℕ → EndedModel → BarModel
gains_bar s name e = bar name (value_of (told_of e s.passes line.Gains) figure.Gained)

-- the longest wait on a socket
abbrev pub wait_bar : SetupModel → List ℕ → EndedModel → ℕ → BarModel
wait_bar s name e socket = bar (name ++ codes " socket " ++ decimal socket) (value_of (told_of e s.passes (line.Passes Socket socket)) figure.Longest)

abbrev pub waits_bars : SetupModel → List ℕ → EndedModel → List BarModel
waits_bars s name e = map (wait_bar s name e) (values_of Socket s.passes)

-- the bars of a policy
abbrev pub gains_of : SetupModel → CandidateModel → BarModel
gains_of s c = gains_bar s c.name (first_end s c)

abbrev pub waits_of : SetupModel → CandidateModel → List BarModel
waits_of s c = waits_bars s c.name (first_end s c)

-- the beginning of a picture of this height
unfoldable pub svg_text : ℕ → List ℕ
svg_text height = codes "<svg xmlns=\"http://www.w3.org/2000/svg\" width=\"920\" height=\"" ++ decimal height
    ++ codes "\" font-family=\"sans-serif\" font-size=\"13\" fill=\"#222\">\n"

unfoldable pub style_text : List ℕ
style_text = codes "<style>.paper{fill:#fff}.gains{fill:#4878a8}.waits{fill:#c07030}</style>\n"

unfoldable pub paper_text : ℕ → List ℕ
paper_text height = codes "<rect class=\"paper\" width=\"920\" height=\"" ++ decimal height ++ codes "\"/>\n"

unfoldable pub title_text : List ℕ
title_text = text_at 8 20 ++ codes "syncord-sim: a model, no claim on any machine" ++ text_end

unfoldable pub head_text : ℕ → List ℕ
head_text height = svg_text height ++ style_text ++ paper_text height ++ title_text

-- where the second chart stands, and how high the picture is: 20 pixels for each bar
unfoldable pub second_of : List BarModel → ℕ
second_of gains = 20 * length gains + 90

unfoldable pub height_of : List BarModel → List BarModel → ℕ
height_of gains waits = 20 * length gains + 20 * length waits + 130

unfoldable pub gains_text : List BarModel → List ℕ
gains_text gains = chart_text (codes "gains") (codes "gains of the lock") 50 gains

unfoldable pub waits_text : ℕ → List BarModel → List ℕ
waits_text y waits = chart_text (codes "waits") (codes "longest wait by socket, in ticks") y waits

-- the gains, and below them the waits
unfoldable pub charts_text : List BarModel → List BarModel → List ℕ
charts_text gains waits = head_text (height_of gains waits) ++ gains_text gains ++ waits_text (second_of gains) waits ++ codes "</svg>\n"

abbrev pub picture_text : SetupModel → List ℕ
picture_text s = charts_text (map (gains_of s) s.policies) (flat_map (waits_of s) s.policies)
