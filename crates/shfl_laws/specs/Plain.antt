-- A lawful world in plain words, and that these are the invariant.
use Rattle.std.specs.Prelude.{◌≡◌, ℕ, ◌<◌, ◌≤◌, length, slice_index}
use mathlib.Core.Option.{some}
use lib.ListN.{get_elem?}
use Rattle.shfl_line.specs.Line.{Line, IsWellFormed}
use Rattle.shfl_core.specs.declared.phase.PassState.{PassState}
use Rattle.shfl_core.specs.declared.words.Word.{Word}
use Rattle.shfl_core.specs.declared.words.Word.TheVariants.{Attr}
use Rattle.shfl_core.specs.Words.{look, wide, most_passes}
use Rattle.shfl_core.specs.Worlds.{World}
use Rattle.shfl_core.specs.Lawful.{Terms, count, Formed, Lawful}
use Rattle.shfl_laws.specs.Shows.{ShowsPlainly}
use Rattle.shfl_laws.specs.PlainFacts.{PlainFacts}
use Rattle.shfl_laws.specs.PlainOwed.{PlainOwed}

-- the words and seats of a lock: how many, and in which form
pub record HasForm (t : Terms) (w : World) : Type 0 where
  -- 1 to 1,024 passes a batch, most_passes at most, and the words of each
  pub limit : (0 < t.rules.limit) × (t.rules.limit ≤ 1024)
  pub few : count t ≤ most_passes
  pub room : length w.words ≡ wide (count t)
  -- the seats that are filled, each with the pass of its number
  pub seats : length w.passes ≤ count t
  pub numbers : (p : ℕ) (q : PassState) → get_elem? w.passes p ≡ some q → q.reg.me ≡ p
  -- every word has the form of its kind, and the attributes are those of the opening
  pub formed : (v : Word) → Formed v (look w.words v)
  pub attrs : (p : ℕ) → p < count t → look w.words (Attr p) ≡ slice_index t.attrs p

-- the world is lawful and shows the line state s: it shows it plainly, s is well formed, the registers agree with
-- the words and the line, and no wakeup is lost
pub record PlainLawful (t : Terms) (w : World) (s : Line) : Type 0 where
  pub form : HasForm t w
  pub shows : ShowsPlainly (count t) w s
  pub well_formed : IsWellFormed t.rules.limit s
  pub facts : PlainFacts t w s
  pub owed : PlainOwed t.rules.form w

-- the plain words hold of every lawful world
abbrev pub PlainLaw : Type 0
PlainLaw = (t : Terms) (w : World) (ok : Lawful t w) → PlainLawful t w ok.shown

-- and a world of which they hold is lawful, and shows that state
abbrev pub LawfulLaw : Type 0
LawfulLaw = (t : Terms) (w : World) (s : Line) → PlainLawful t w s → (ok : Lawful t w) × (ok.shown ≡ s)
