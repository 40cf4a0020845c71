-- The worlds that a lock comes to, and what a step of one must keep.
use Rattle.std.specs.Prelude.{◌≡◌, ℕ, ◌<◌, ◌≤◌, Bool, List, length, slice_index}
use mathlib.Core.Option.{some}
use lib.ListN.{get_elem?}
use Rattle.shfl_line.specs.declared.events.LineEvent.{LineEvent}
use Rattle.shfl_line.specs.Line.{Line, IsOfPasses}
use Rattle.shfl_line.specs.Steps.{Admits, after}
use Rattle.shfl_line.specs.Words.{IsLockWord, IsStateWord}
use Rattle.shfl_core.specs.declared.phase.Phase.{Phase}
use Rattle.shfl_core.specs.declared.phase.Nap.{Nap}
use Rattle.shfl_core.specs.declared.phase.Nap.TheVariants.{Awake}
use Rattle.shfl_core.specs.declared.phase.PassState.{PassState}
use Rattle.shfl_core.specs.declared.phase.Rules.{Rules}
use Rattle.shfl_core.specs.declared.words.Word.{Word}
use Rattle.shfl_core.specs.declared.words.Word.TheVariants.{Lock, Tail, Next, State, Attr, Bell}
use Rattle.shfl_core.specs.Words.{look, wide, most_passes, index, site}
use Rattle.shfl_core.specs.Plan.{plan}
use Rattle.shfl_core.specs.Worlds.{World, stepped}
use Rattle.shfl_core.specs.View.{View, view}
use Rattle.shfl_core.specs.Events.{event}
use Rattle.shfl_core.specs.Order.{Order}
use Rattle.shfl_core.specs.Grouping.{Grouping}
use Rattle.shfl_core.specs.Holding.{Holding, Registered}
use Rattle.shfl_core.specs.Owed.{Owed}

-- what an opening fixes: the rules, and the attribute word of each pass
pub record Terms : Type 0 where
  pub rules : Rules
  pub attrs : List ℕ

abbrev pub count : Terms → ℕ
count t = length t.attrs

-- the form of a word
abbrev pub Formed : Word → ℕ → Type 0
Formed Lock n = IsLockWord n
Formed Tail n = n ≤ 4294967296
Formed (Next q) n = n ≤ 4294967296
Formed (State q) n = IsStateWord n
Formed (Attr q) n = Unit {0}
Formed (Bell q) n = n ≤ 1

-- the world shows the line state s, and its registers agree with its words
pub record Agrees (t : Terms) (v : View) (s : Line) (giver : ℕ) : Type 0 where
  pub order : Order v s giver
  pub grouping : Grouping t.rules.limit v s
  pub holding : Holding (count t) v.held v.readers v.pass s.hold
  pub registered : Registered t.rules.form v
  pub owed : Owed t.rules.form v

pub record Lawful (t : Terms) (w : World) : Type 0 where
  pub room : length w.words ≡ wide (count t)
  pub seats : length w.passes ≤ count t
  pub few : count t ≤ most_passes
  pub limit : (0 < t.rules.limit) × (t.rules.limit ≤ 1024)
  pub formed : (v : Word) → Formed v (look w.words v)
  pub attrs : (q : ℕ) → q < count t → look w.words (Attr q) ≡ slice_index t.attrs q
  pub numbers : (p : ℕ) (q : PassState) → get_elem? w.passes p ≡ some q → q.reg.me ≡ p
  -- the line state that the world shows, and the pass at Ready plus 1, or 0
  pub shown : Line
  pub giver : ℕ
  pub of_passes : IsOfPasses (count t) shown
  pub agrees : Agrees t (view w) shown giver

-- from one world to another the shown states are one admitted step of the line apart, the one that is named
pub record Advances (t : Terms) (w : World) (ok : Lawful t w) (e : LineEvent) (w' : World) : Type 0 where
  pub lawful : Lawful t w'
  pub admitted : Admits t.rules.limit ok.shown e
  pub shown : lawful.shown ≡ after ok.shown e

-- the step of a pass that is awake at this phase
abbrev pub LawOf : Terms → Phase → Type 0
LawOf t f = (w : World) (p : ℕ) (q : PassState) (choice : Bool) (ok : Lawful t w) → get_elem? w.passes p ≡ some q → q.nap ≡ Awake → q.phase ≡ f
    → Advances t w ok (event t.rules p q (look w.words (site (plan t.rules p q)))) (stepped t.rules w p q choice)

-- the step of a pass in this park state
abbrev pub NapLawOf : Terms → Nap → Type 0
NapLawOf t n = (w : World) (p : ℕ) (q : PassState) (choice : Bool) (ok : Lawful t w) → get_elem? w.passes p ≡ some q → q.nap ≡ n
    → Advances t w ok (event t.rules p q (look w.words (site (plan t.rules p q)))) (stepped t.rules w p q choice)

-- the word that a pass plans to touch is there
abbrev pub InRange : Terms → ℕ → PassState → Type 0
InRange t p q = index (site (plan t.rules p q)) < wide (count t)
