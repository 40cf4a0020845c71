-- The theorem of the lock: after every schedule, whatever the policies answer, the world is what the plain words say.
use Rattle.std.specs.Prelude.{◌≡◌, List, length}
use Rattle.shfl_line.specs.declared.words.Attr.{Attr}
use Rattle.shfl_line.specs.Line.{Line, IsWellFormed}
use Rattle.shfl_core.specs.declared.phase.Rules.{Rules}
use Rattle.shfl_core.specs.Worlds.{World, opening, Move, run}
use Rattle.shfl_core.specs.ShownLine.{shown_line}
use Rattle.shfl_core.specs.Lawful.{Terms, count, Lawful}
use Rattle.shfl_laws.specs.Moves.{MayOpen, EachMayMove}
use Rattle.shfl_laws.specs.Headline.{Headline}

-- the plain words hold of every lawful world, with the line and the detached waiter that it shows
abbrev pub HeadlineLaw : Type 0
HeadlineLaw = (t : Terms) (w : World) (ok : Lawful t w) → Headline t.rules.limit w ok.shown.line ok.shown.hand

-- the state that a lawful world shows is well formed
abbrev pub ShowsWellFormed : Type 0
ShowsWellFormed = (t : Terms) (w : World) (ok : Lawful t w) → IsWellFormed t.rules.limit ok.shown

-- a world shows one state
abbrev pub ShowsOne : Type 0
ShowsOne = (t : Terms) (w : World) (a b : Lawful t w) → a.shown ≡ b.shown

-- after every schedule from the opening the plain words hold
abbrev pub RunHeadline : Type 0
RunHeadline = (rules : Rules) (attrs : List Attr) (moves : List Move) → MayOpen rules attrs → EachMayMove rules.form moves
    → (s : Line) × IsWellFormed rules.limit s × Headline rules.limit (run rules (opening attrs) moves) s.line s.hand

-- a lawful world with all its seats filled shows just what its words and passes give
abbrev pub ShownLineLaw : Type 0
ShownLineLaw = (t : Terms) (w : World) (ok : Lawful t w) → length w.passes ≡ count t → ok.shown ≡ shown_line w
