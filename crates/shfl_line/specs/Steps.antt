-- The steps of a line state: where an event is admitted, and the state after it.
use Rattle.std.specs.Prelude.{◌≡◌, ◌≢◌, ◌⊎◌, ℕ, suc, ◌+◌, ◌-◌, ◌<◌, ◌≤◌, List, [], ◌∷◌, ◌++◌, Some, None, cond, ◌==◌, nat_lt, slice_set}
use Rattle.shfl_line.specs.declared.events.Mode.{Mode}
use Rattle.shfl_line.specs.declared.events.Mode.TheVariants.{Write, Read}
use Rattle.shfl_line.specs.declared.events.Role.{Role}
use Rattle.shfl_line.specs.declared.events.Role.TheVariants.{Nobody, Walk, Rest as Idle}
use Rattle.shfl_line.specs.declared.events.LineEvent.{LineEvent}
use Rattle.shfl_line.specs.declared.events.LineEvent.TheVariants.{Steal, Join, Grab, Leave, Release, Begin, Rest, Pick, Place, Keep, Give, Nothing}
use Rattle.shfl_line.specs.Words.{link_word}
use Rattle.shfl_line.specs.Passes.{times, first, last, without, put_behind, follower, behind, last_marked}
use Rattle.shfl_line.specs.Line.{Line, mark_of, active_shuffler, idle_shuffler, holds, writer_count, reader_count, IsOfPasses}

-- a writer may come where nobody holds, a reader where no writer does
abbrev pub IsFreeFor : Mode → List (ℕ × Mode) → Type 0
IsFreeFor Write hold = (writer_count hold ≡ 0) × (reader_count hold ≡ 0)
IsFreeFor Read hold = writer_count hold ≡ 0

-- the pass stands neither in the line nor outside it as the detached waiter
abbrev pub IsAway : Line → ℕ → Type 0
IsAway s p = (times p s.line ≡ 0) × (link_word s.hand ≢ suc p)

-- the pass may begin a round: it is the idle shuffler, or the first, and no batch stands
pub record MayBegin (s : Line) (p : ℕ) : Type 0 where
  pub waits : holds p s.hold ≡ 0
  pub may : (idle_shuffler s.role ≡ suc p)
      ⊎ ((first s.line ≡ suc p) × (mark_of s p ≡ 0) × (s.role ≡ Nobody))

-- the batch number in a round that begins: the pass's own, or 1 where it has none
abbrev pub begun_mark : ℕ → ℕ
begun_mark mark = cond (mark == 0) 1 mark

-- the pass is in a round and l is the batch's last
pub record IsInRound (s : Line) (p l : ℕ) : Type 0 where
  pub active : active_shuffler s.role ≡ suc p
  pub last : last_marked (mark_of s) s.line ≡ suc l

-- the waiter may be taken out: it stands behind l, neither directly nor as the line's last
pub record MayDetach (line : List ℕ) (l who : ℕ) : Type 0 where
  pub behind : 0 < times who (behind l line)
  pub apart : follower l line ≢ suc who
  pub inner : last line ≢ suc who

-- the event may happen
abbrev pub Admits : ℕ → Line → LineEvent → Type 0
Admits limit s (Steal p mode) = IsFreeFor mode s.hold × (holds p s.hold ≡ 0) × IsAway s p
Admits limit s (Join p) = IsAway s p × (holds p s.hold ≡ 0)
Admits limit s (Grab p mode) =
    (first s.line ≡ suc p) × (active_shuffler s.role ≢ suc p) × (holds p s.hold ≡ 0) × IsFreeFor mode s.hold
Admits limit s (Leave p) = (first s.line ≡ suc p) × (0 < holds p s.hold)
Admits limit s (Release p) = (0 < holds p s.hold) × (times p s.line ≡ 0)
Admits limit s (Begin p) = MayBegin s p × (begun_mark (mark_of s p) < limit)
Admits limit s (Rest p) = MayBegin s p × (limit ≤ begun_mark (mark_of s p))
Admits limit s (Pick p who) =
    (l : ℕ) × IsInRound s p l × (link_word s.hand ≡ 0) × (mark_of s l < limit) × MayDetach s.line l who
Admits limit s (Place p) = (l : ℕ) × IsInRound s p l × (0 < link_word s.hand)
Admits limit s (Keep p) =
    (l : ℕ) × IsInRound s p l × (link_word s.hand ≡ 0) × (mark_of s l < limit) × (0 < follower l s.line)
Admits limit s (Give p) = (l : ℕ) × IsInRound s p l × (link_word s.hand ≡ 0)
Admits limit s Nothing = Unit {0}

-- a holder more, in rising order of passes
abbrev pub add_holder : ℕ → Mode → List (ℕ × Mode) → List (ℕ × Mode)
add_holder p mode [] = (p, mode) ∷ []
add_holder p mode (x ∷ xs) = cond (nat_lt p x.0) ((p, mode) ∷ x ∷ xs) (x ∷ add_holder p mode xs)

abbrev pub remove_holder : ℕ → List (ℕ × Mode) → List (ℕ × Mode)
remove_holder p [] = []
remove_holder p (x ∷ xs) = cond (x.0 == p) xs (x ∷ remove_holder p xs)

-- the role once the pass has left the line: a flag goes with its idle shuffler
abbrev pub role_without : ℕ → Role → Role
role_without p role = cond (idle_shuffler role == suc p) Nobody role

-- the batch's last, where there is one
abbrev pub batch_end : Line → ℕ
batch_end s = last_marked (mark_of s) s.line - 1

-- the state after the event
abbrev pub after : Line → LineEvent → Line
after s (Steal p mode) = record s { hold = add_holder p mode s.hold }
after s (Join p) = record s { line = s.line ++ p ∷ []; mark = slice_set s.mark p 0 }
after s (Grab p mode) = record s { hold = add_holder p mode s.hold }
after s (Leave p) =
    record s { line = without p s.line; role = role_without p s.role; mark = slice_set s.mark p 0 }
after s (Release p) = record s { hold = remove_holder p s.hold }
after s (Begin p) = record s { role = Walk p; mark = slice_set s.mark p (begun_mark (mark_of s p)) }
after s (Rest p) = record s { role = Nobody; mark = slice_set s.mark p (begun_mark (mark_of s p)) }
after s (Pick p who) = record s { line = without who s.line; hand = Some who }
after s (Place p) = record s { line = put_behind (batch_end s) (link_word s.hand - 1) s.line; hand = None }
after s (Keep p) =
    record s { mark = slice_set s.mark (follower (batch_end s) s.line - 1) (mark_of s (batch_end s) + 1) }
after s (Give p) = record s { role = Idle (batch_end s) }
after s Nothing = s

-- each pass that the event names is one of so many
abbrev pub NamesBelow : ℕ → LineEvent → Type 0
NamesBelow passes (Steal p mode) = p < passes
NamesBelow passes (Join p) = p < passes
NamesBelow passes (Grab p mode) = p < passes
NamesBelow passes (Leave p) = p < passes
NamesBelow passes (Release p) = p < passes
NamesBelow passes (Begin p) = p < passes
NamesBelow passes (Rest p) = p < passes
NamesBelow passes (Pick p who) = (p < passes) × (who < passes)
NamesBelow passes (Place p) = p < passes
NamesBelow passes (Keep p) = p < passes
NamesBelow passes (Give p) = p < passes
NamesBelow passes Nothing = Unit {0}

-- each admitted event on a state of so many passes keeps the fact
abbrev pub EachStepKeeps : (ℕ → ℕ → Line → Type 0) → Type 0
EachStepKeeps Fact = (limit passes : ℕ) (s : Line) (e : LineEvent)
    → 0 < limit → IsOfPasses passes s → NamesBelow passes e → Admits limit s e → Fact limit passes s → Fact limit passes (after s e)
