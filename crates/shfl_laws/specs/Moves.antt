-- The laws of the moves of a schedule: what every move of every run keeps.
use Rattle.std.specs.Prelude.{◌≡◌, ℕ, ◌<◌, ◌≤◌, List, [], ◌∷◌, ◌++◌, length, map, Bool, cond}
use mathlib.Core.Option.{some}
use lib.ListN.{get_elem?}
use Rattle.shfl_line.specs.declared.events.Form.{Form}
use Rattle.shfl_line.specs.declared.events.Mode.{Mode}
use Rattle.shfl_line.specs.declared.events.LineEvent.{LineEvent}
use Rattle.shfl_line.specs.declared.events.LineEvent.TheVariants.{Nothing}
use Rattle.shfl_line.specs.declared.words.Attr.{Attr}
use Rattle.shfl_line.specs.Words.{attr_word}
use Rattle.shfl_line.specs.Line.{empty}
use Rattle.shfl_core.specs.declared.phase.Phase.TheVariants.{Idle}
use Rattle.shfl_core.specs.declared.phase.Nap.TheVariants.{Awake}
use Rattle.shfl_core.specs.declared.phase.PassState.{PassState}
use Rattle.shfl_core.specs.declared.phase.Rules.{Rules}
use Rattle.shfl_core.specs.declared.words.Word.TheVariants.{Attr as AttrOf}
use Rattle.shfl_core.specs.Words.{look, most_passes, site}
use Rattle.shfl_core.specs.Plan.{plan, moving, attempt_plan}
use Rattle.shfl_core.specs.Waiting.{MayUse, idle}
use Rattle.shfl_core.specs.Worlds.{World, known, opening, opening_words, placed_at, stepped, tried, Move, Acquire, Release, Step, after_move, run}
use Rattle.shfl_core.specs.ShownLine.{each_below}
use Rattle.shfl_core.specs.Events.{event, attempt_event}
use Rattle.shfl_core.specs.Lawful.{Terms, count, Lawful, Advances}

-- in a form without readers every acquire is a writer's
abbrev pub MayMove : Form → Move → Type 0
MayMove form (Acquire p mode) = MayUse form mode
MayMove form (Release p) = Unit {0}
MayMove form (Step p choice) = Unit {0}

abbrev pub EachMayMove : Form → List Move → Type 0
EachMayMove form [] = Unit {0}
EachMayMove form (m ∷ rest) = MayMove form m × EachMayMove form rest

-- what the line shows of a move: a step's own event, and nothing of any other move
abbrev pub move_event : Rules → World → Move → LineEvent
move_event t w (Acquire p mode) = Nothing
move_event t w (Release p) = Nothing
move_event t w (Step p choice) = cond (moving (known w.passes p))
    (event t p (known w.passes p) (look w.words (site (plan t p (known w.passes p)))))
    Nothing

-- a move leads from a lawful world to one, and the shown states are one step of the line apart
abbrev pub MoveLaw : Terms → Move → Type 0
MoveLaw t m = (w : World) (ok : Lawful t w) → MayMove t.rules.form m → Advances t w ok (move_event t.rules w m) (after_move t.rules w m)

-- so does the step of a pass, whatever its phase and park state
abbrev pub StepLaw : Terms → Type 0
StepLaw t = (w : World) (p : ℕ) (q : PassState) (choice : Bool) (ok : Lawful t w) → get_elem? w.passes p ≡ some q
    → Advances t w ok (event t.rules p q (look w.words (site (plan t.rules p q)))) (stepped t.rules w p q choice)

-- and the one operation of an attempt, by an idle pass
abbrev pub AttemptLaw : Terms → Mode → Type 0
AttemptLaw t mode = (w : World) (p : ℕ) (q : PassState) (ok : Lawful t w) → get_elem? w.passes p ≡ some q → q.phase ≡ Idle → MayUse t.rules.form mode
    → Advances t w ok (attempt_event mode p (look w.words (site (attempt_plan mode)))) (tried w p q mode)

-- what the opening with these attributes fixes
abbrev pub terms : Rules → List Attr → Terms
terms rules attrs = record { rules = rules; attrs = map attr_word attrs }

-- what the words themselves tell of it, for so many passes
abbrev pub told_terms : Rules → ℕ → List ℕ → Terms
told_terms rules passes words = record { rules = rules; attrs = each_below (λ p. look words (AttrOf p)) passes }

-- a lawful world's words tell what its opening fixed
abbrev pub TermsLaw : Terms → Type 0
TermsLaw t = (w : World) → Lawful t w → told_terms t.rules (count t) w.words ≡ t

-- rules and attributes of a lock
pub record MayOpen (rules : Rules) (attrs : List Attr) : Type 0 where
  pub limit : (0 < rules.limit) × (rules.limit ≤ 1024)
  pub some : 0 < length attrs
  pub few : length attrs ≤ most_passes

-- a lock at its opening, with all its seats filled, is lawful, and shows that nobody holds or waits
pub record OpensLawful (rules : Rules) (attrs : List Attr) : Type 0 where
  pub lawful : Lawful (terms rules attrs) (opening attrs)
  pub shown : lawful.shown ≡ empty (length attrs)

abbrev pub OpeningLaw : Type 0
OpeningLaw = (rules : Rules) (attrs : List Attr) → MayOpen rules attrs → OpensLawful rules attrs

-- after every schedule from the opening, whatever the policies answer, the world is lawful
abbrev pub RunLaw : Type 0
RunLaw = (rules : Rules) (attrs : List Attr) (moves : List Move) → MayOpen rules attrs → EachMayMove rules.form moves → Lawful (terms rules attrs) (run rules (opening attrs) moves)

-- a seat that is filled adds an idle pass, and the line shows nothing of it
abbrev pub with_one_more : World → World
with_one_more w = record { words = w.words; passes = w.passes ++ idle (length w.passes) ∷ [] }

abbrev pub SeatLaw : Terms → Type 0
SeatLaw t = (w : World) (ok : Lawful t w) → length w.passes < count t → Advances t w ok Nothing (with_one_more w)

-- the words of an opening, with no seat filled yet
abbrev pub unseated : List Attr → World
unseated attrs = record { words = opening_words attrs; passes = [] }

-- and with the first seat filled
abbrev pub first_seated : List Attr → World
first_seated attrs = record { words = opening_words attrs; passes = idle 0 ∷ [] }

-- a world of a lock that opens is lawful, and shows that nobody holds or waits
pub record StartsLawful (rules : Rules) (attrs : List Attr) (w : World) : Type 0 where
  pub lawful : Lawful (terms rules attrs) w
  pub shown : lawful.shown ≡ empty (length attrs)

-- so it is before any seat is filled, and with the first one
abbrev pub StartLaw : (List Attr → World) → Type 0
StartLaw start = (rules : Rules) (attrs : List Attr) → MayOpen rules attrs → StartsLawful rules attrs (start attrs)

-- an idle pass may be replaced by any idle one of its number, and the line shows nothing of it
abbrev pub ForgetLaw : Terms → Type 0
ForgetLaw t = (w : World) (p : ℕ) (q fresh : PassState) (ok : Lawful t w) → get_elem? w.passes p ≡ some q → q.phase ≡ Idle
    → fresh.phase ≡ Idle → fresh.nap ≡ Awake → fresh.reg.me ≡ p → Advances t w ok Nothing (placed_at w p fresh)
