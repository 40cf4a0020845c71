-- A chart of bars: a title, and a row for each bar, whose length is its amount beside the largest.
use Rattle.std.specs.Prelude.{ℕ, ◌+◌, ◌-◌, ◌/◌, ◌==◌, List, [], ◌∷◌, ◌++◌, fold, min, if◌then◌else◌}
use Rattle.std.specs.Fmt.{decimal}
use Rattle.sim_setup.specs.Clock.{times, later}
use Rattle.markup_text.specs.Escaping.{escaped}
use Rattle.sim_chart.specs.Shapes.{text_at, text_end, rect_text}

-- what it is of, and how much
pub record BarModel : Type 0 where
  pub label : List ℕ
  pub amount : ℕ

-- where bars begin, and how long the longest is, in pixels
abbrev pub left : ℕ
left = 330

abbrev pub longest : ℕ
longest = 400

abbrev pub largest_of : List BarModel → ℕ
largest_of bars = fold (λ most bar. later most bar.amount) 0 bars

unfoldable pub width_of : ℕ → ℕ → ℕ
width_of largest amount = if largest == 0 then 0 else min longest (times amount longest / largest)

-- a row: the label, the bar, and its amount behind it
unfoldable pub bar_text : List ℕ → ℕ → ℕ → BarModel → List ℕ
bar_text kind largest y bar = text_at 8 y ++ escaped bar.label ++ text_end
    ++ rect_text kind left (y - 11) (width_of largest bar.amount)
    ++ text_at (left + width_of largest bar.amount + 6) y ++ decimal bar.amount ++ text_end

-- the rows, the first of which stands there
abbrev pub bars_text : List ℕ → ℕ → ℕ → List BarModel → List ℕ
bars_text kind largest y [] = []
bars_text kind largest y (bar ∷ bars) = bar_text kind largest y bar ++ bars_text kind largest (y + 20) bars

unfoldable pub chart_text : List ℕ → List ℕ → ℕ → List BarModel → List ℕ
chart_text kind title y bars = text_at 8 y ++ title ++ text_end ++ bars_text kind (largest_of bars) (y + 22) bars
