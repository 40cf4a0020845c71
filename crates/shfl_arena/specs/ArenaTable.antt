-- The rule under which every word, view and value of an arena changes.
use Rattle.std.specs.Prelude.{◌≡◌, ℕ, ◌+◌, ◌<◌, true, List, length, slice_index, Option}
use mathlib.Core.Option.{some}
use lib.ListN.{get_elem?}
use Rattle.atomic_table.specs.Table.{State as TableState}
use Rattle.shfl_core.specs.declared.phase.Rules.{Rules}
use Rattle.shfl_core.specs.declared.words.Word.TheVariants.{Attr}
use Rattle.shfl_core.specs.ShownLine.{each_below}
use Rattle.shfl_arena.specs.declared.shape.Shape.{Shape}
use Rattle.shfl_arena.specs.declared.view.SeatView.{SeatView}
use Rattle.shfl_arena.specs.ArenaWords.{place}
use Rattle.shfl_arena.specs.ArenaRule.{ArenaTerms, ArenaRule}
use Rattle.shfl_arena.specs.Threads.{new_thread}
use Rattle.shfl_arena.specs.SeatViews.{seats_of, threads_of}
use Rattle.shfl_arena.specs.ValueMoves.{AreHome}

-- what the words themselves tell of the attributes, for so many threads; each lock goes by the same rules
abbrev pub told_arena : Shape → Rules → ℕ → List ℕ → ArenaTerms
told_arena shape rules threads words = record { shape = shape; rules = λ _. rules; attrs = each_below (λ p. slice_index words (place shape 0 (Attr p))) threads }

-- what holds of one seat, of so many
pub record SeatFacts (seats seat : ℕ) (v : SeatView) : Type 0 where
  -- its number is its place among the seats, unless it was given back
  pub number : 0 < v.seats → v.number ≡ seat
  -- the last one stands at the end, so that the next one has the next number
  pub last : v.last ≡ true → seat + 1 ≡ seats
  -- who was given back waits nowhere and holds nothing
  pub spent : v.seats ≡ 0 → v.thread ≡ new_thread

pub record LawfulTable {V : Type 0} (shape : Shape) (rules : Rules) (threads : ℕ) (s : TableState (Option V) SeatView) : Type 0 where
  -- by what the seats know, each lock is lawful
  pub arena : ArenaRule (told_arena shape rules threads s.words) s.words (threads_of s.views)
  pub seated : (seat : ℕ) (v : SeatView) → get_elem? s.views seat ≡ some v → SeatFacts (length s.views) seat v
  -- all of them stand for as many as there are
  pub counted : seats_of s.views ≡ length s.views
  -- and each lock that nobody holds as a writer has its value at home
  pub home : AreHome (threads_of s.views) s.homes
