-- The laws of the steps, a record for each part of the table: each step leads from a lawful world to a lawful world,
-- and the shown states are one step of the line apart, the one that is named.
use Rattle.std.specs.Prelude.{ℕ}
use Rattle.shfl_line.specs.declared.events.Mode.TheVariants.{Write, Read}
use Rattle.shfl_core.specs.declared.phase.Phase.TheVariants.{Idle, Steal, Init, Swap, Link, Close, Look, Begin, Next, Tail, Attr, Decide, After, Pick, Aim, Place, Mark, Give, Peek, Grab, WriteGrab, Take, Cut, Late, Ready, Open, Held, Release, Count, Uncount, TryUncount, HeadCount, HeadLook, ReadRelease}
use Rattle.shfl_core.specs.declared.phase.Nap.TheVariants.{Doze, Hear, Rouse, Ring}
use Rattle.shfl_core.specs.Lawful.{Terms, LawOf, NapLawOf}
use Rattle.shfl_laws.specs.Moves.{AttemptLaw}

-- outside the queue: taking the lock past it, and giving the lock back
pub record OutsideLaws (t : Terms) : Type 0 where
  pub steal : LawOf t Steal
  pub count : LawOf t Count
  pub uncount : LawOf t Uncount
  pub opened : LawOf t Open
  pub release : LawOf t Release
  pub read_release : LawOf t ReadRelease
  -- an idle pass and a holder have no step; the load that they name changes nothing
  pub idle : LawOf t Idle
  pub held : LawOf t Held

-- the one operation of an attempt, and what takes a count back
pub record AttemptLaws (t : Terms) : Type 0 where
  pub write : AttemptLaw t Write
  pub read : AttemptLaw t Read
  pub uncount : LawOf t TryUncount

-- joining the queue and waiting in it
pub record JoinLaws (t : Terms) : Type 0 where
  pub init : LawOf t Init
  pub swap : LawOf t Swap
  pub link : LawOf t Link
  pub close : LawOf t Close
  pub look : LawOf t Look

-- a round of shuffling: whom to move
pub record ChoosingLaws (t : Terms) : Type 0 where
  pub begin : LawOf t Begin
  pub next : LawOf t Next
  pub tail : LawOf t Tail
  pub attr : LawOf t Attr
  pub decide : LawOf t Decide
  pub after : LawOf t After

-- a round of shuffling: the three stores of a relink, and the batch
pub record RelinkLaws (t : Terms) : Type 0 where
  pub pick : LawOf t Pick
  pub aim : LawOf t Aim
  pub place : LawOf t Place
  pub mark : LawOf t Mark
  pub give : LawOf t Give

-- at the queue's head
pub record HeadLaws (t : Terms) : Type 0 where
  pub peek : LawOf t Peek
  pub grab : LawOf t Grab
  pub write_grab : LawOf t WriteGrab
  pub head_count : LawOf t HeadCount
  pub head_look : LawOf t HeadLook

-- leaving the queue
pub record LeaveLaws (t : Terms) : Type 0 where
  pub take : LawOf t Take
  pub cut : LawOf t Cut
  pub late : LawOf t Late
  pub ready : LawOf t Ready

-- parking
pub record ParkLaws (t : Terms) : Type 0 where
  pub doze : NapLawOf t Doze
  pub hear : NapLawOf t Hear
  pub rouse : NapLawOf t Rouse
  pub ring : (whom : ℕ) → NapLawOf t (Ring whom)
