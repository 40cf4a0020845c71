-- How many may leave the queue before a waiter does.
use Rattle.std.specs.Prelude.{◌≡◌, ◌≢◌, ℕ, ◌+◌, ◌*◌, ◌≤◌, List, ◌++◌, length}
use Rattle.shfl_line.specs.declared.events.LineEvent.TheVariants.{Join, Leave}
use Rattle.shfl_line.specs.declared.words.Attr.{Attr}
use Rattle.shfl_line.specs.Passes.{times}
use Rattle.shfl_core.specs.declared.phase.Rules.{Rules}
use Rattle.shfl_core.specs.Worlds.{World, opening}
use Rattle.shfl_core.specs.ShownLine.{shown_line}
use Rattle.shfl_core.specs.Lawful.{Terms, Lawful, Advances}
use Rattle.shfl_laws.specs.Moves.{MayOpen}
use Rattle.shfl_laws.specs.Changes.{Change, after_change, after_changes, change_event, shown_events, MayChange, EachMayChange}
use Rattle.shfl_bound.specs.Departures.{Waits, ahead, leaver, left_before}

-- a change leads from a lawful world to one, and the shown states are one step of the line apart
abbrev pub ChangeLaw : Terms → Type 0
ChangeLaw t = (w : World) (c : Change) (ok : Lawful t w) → MayChange t.rules.form c
    → Advances t w ok (change_event t.rules w c) (after_change t.rules w c)

-- of each waiter a number that bounds how many may still leave before it
pub record OvertakingNumber (t : Terms) : Type 0 where
  pub number : (w : World) → Lawful t w → ℕ → ℕ
  -- it is at most the limit for each pass ahead
  pub bounded : (w : World) (ok : Lawful t w) (x : ℕ) → Waits ok.shown x → number w ok x ≤ t.rules.limit * length (ahead x ok.shown.line)
  -- no change but its own departure raises it, and each departure of another lowers it
  pub falls : (w : World) (ok : Lawful t w) (x : ℕ) (c : Change) (a : Advances t w ok (change_event t.rules w c) (after_change t.rules w c))
      → Waits ok.shown x → change_event t.rules w c ≢ Leave x
      → length (leaver (change_event t.rules w c)) + number (after_change t.rules w c) a.lawful x ≤ number w ok x

-- whatever the passes do and the policies answer, at most the limit leave before a waiter for each pass ahead of it
abbrev pub WaiterBound : Terms → Type 0
WaiterBound t = (w : World) (ok : Lawful t w) (x : ℕ) (changes : List Change) → EachMayChange t.rules.form changes → Waits ok.shown x
    → length (left_before x (shown_events t.rules w changes)) ≤ t.rules.limit * length (ahead x ok.shown.line)

-- so whoever joins behind a line of k passes is preceded by at most k times the limit
abbrev pub JoinerBound : Terms → Type 0
JoinerBound t = (w : World) (ok : Lawful t w) (x : ℕ) (c : Change) (rest : List Change)
    → MayChange t.rules.form c → EachMayChange t.rules.form rest → change_event t.rules w c ≡ Join x
    → length (left_before x (shown_events t.rules (after_change t.rules w c) rest)) ≤ t.rules.limit * length ok.shown.line

-- the same after any history from the opening, by the line that the lock shows then
abbrev pub OpenedBound : Type 0
OpenedBound = (rules : Rules) (attrs : List Attr) (history : List Change) (x : ℕ) (c : Change) (rest : List Change)
    → MayOpen rules attrs → EachMayChange rules.form history → MayChange rules.form c → EachMayChange rules.form rest
    → change_event rules (after_changes rules (opening attrs) history) c ≡ Join x
    → length (left_before x (shown_events rules (after_change rules (after_changes rules (opening attrs) history) c) rest))
    ≤ rules.limit * length (shown_line (after_changes rules (opening attrs) history)).line

-- the first that leave are the first that stood ahead, in their order, and nobody else leaves
pub record LeaveInOrder (left stood_ahead : List ℕ) : Type 0 where
  pub order : (rest : List ℕ) × (left ++ rest ≡ stood_ahead)
  pub others : (y : ℕ) → times y stood_ahead ≡ 0 → times y left ≡ 0

-- where the limit is 1, first in is first out
abbrev pub FirstInFirstOut : Terms → Type 0
FirstInFirstOut t = (w : World) (ok : Lawful t w) (x : ℕ) (changes : List Change) → t.rules.limit ≡ 1
    → EachMayChange t.rules.form changes → Waits ok.shown x
    → LeaveInOrder (left_before x (shown_events t.rules w changes)) (ahead x ok.shown.line)
