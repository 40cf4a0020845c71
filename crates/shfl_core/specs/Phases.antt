-- The phases by what a pass does in them.
use Rattle.std.specs.Prelude.{Bool, true, false}
use Rattle.shfl_core.specs.declared.phase.Phase.{Phase}
use Rattle.shfl_core.specs.declared.phase.Phase.TheVariants.{Steal, Link, Close, Look, Begin, Next, Tail, Attr, Decide, After, Pick, Aim, Place, Mark, Give, Peek, Grab, WriteGrab, Take, Cut, Late, Ready, Open, Held, Release, Count, Uncount, TryUncount, HeadCount, HeadLook, ReadRelease}
use Rattle.shfl_core.specs.declared.phase.PassState.{PassState}

-- the phases of a round of shuffling
abbrev pub is_round : Phase → Bool
is_round Next = true
is_round Tail = true
is_round Attr = true
is_round Decide = true
is_round After = true
is_round Pick = true
is_round Aim = true
is_round Place = true
is_round Mark = true
is_round Give = true
is_round _ = false

-- where a phase stands: outside the queue, at its head, waiting in it, or one of the two by `headed`
pub data Rank : Type 0 where
  Away : Rank
  Fore : Rank
  Rear : Rank
  Either : Rank

abbrev pub rank : Phase → Rank
rank Close = Fore
rank Peek = Fore
rank Grab = Fore
rank WriteGrab = Fore
rank HeadCount = Fore
rank HeadLook = Fore
rank Take = Fore
rank Cut = Fore
rank Late = Fore
rank Link = Rear
rank Look = Rear
rank Begin = Either
rank Next = Either
rank Tail = Either
rank Attr = Either
rank Decide = Either
rank After = Either
rank Pick = Either
rank Aim = Either
rank Place = Either
rank Mark = Either
rank Give = Either
rank _ = Away

abbrev pub queued_rank : Rank → Bool
queued_rank Away = false
queued_rank _ = true

abbrev pub fore_rank : Rank → Bool → Bool
fore_rank Fore headed = true
fore_rank Either headed = headed
fore_rank _ headed = false

-- the pass is at the queue's head or waits in the queue
abbrev pub is_queued : PassState → Bool
is_queued q = queued_rank (rank q.phase)

-- the pass is at the queue's head
abbrev pub is_fore : PassState → Bool
is_fore q = fore_rank (rank q.phase) q.reg.headed

-- the pass has joined, and its predecessor's next word doesn't name it yet
abbrev pub is_linking : Phase → Bool
is_linking Link = true
is_linking _ = false

-- the pass has taken its candidate out of the line
abbrev pub has_hand : Phase → Bool
has_hand Aim = true
has_hand Place = true
has_hand _ = false

abbrev pub knows_rank : Rank → Bool
knows_rank Fore = true
knows_rank Either = true
knows_rank _ = false

-- the pass's registers agree with its own state word
abbrev pub knows : Phase → Bool
knows f = knows_rank (rank f)

abbrev pub is_holding : Phase → Bool
is_holding Take = true
is_holding Cut = true
is_holding Late = true
is_holding Ready = true
is_holding Open = true
is_holding Held = true
is_holding Release = true
is_holding ReadRelease = true
is_holding _ = false

-- the pass is counted in the lock word and doesn't hold the lock
abbrev pub is_backing : Phase → Bool
is_backing Uncount = true
is_backing TryUncount = true
is_backing HeadLook = true
is_backing _ = false

abbrev pub tail_to_pick : Phase → Bool
tail_to_pick Tail = true
tail_to_pick Attr = true
tail_to_pick Decide = true
tail_to_pick After = true
tail_to_pick Pick = true
tail_to_pick _ = false

abbrev pub attr_to_pick : Phase → Bool
attr_to_pick Attr = true
attr_to_pick Decide = true
attr_to_pick After = true
attr_to_pick Pick = true
attr_to_pick _ = false

abbrev pub decide_to_pick : Phase → Bool
decide_to_pick Decide = true
decide_to_pick After = true
decide_to_pick Pick = true
decide_to_pick _ = false

abbrev pub next_to_place : Phase → Bool
next_to_place Next = true
next_to_place Aim = true
next_to_place Place = true
next_to_place p = tail_to_pick p

abbrev pub tail_to_decide : Phase → Bool
tail_to_decide Tail = true
tail_to_decide Attr = true
tail_to_decide Decide = true
tail_to_decide _ = false

abbrev pub after_to_place : Phase → Bool
after_to_place After = true
after_to_place Pick = true
after_to_place Aim = true
after_to_place Place = true
after_to_place _ = false

-- the phases of a pass that writes, and those of one that reads
abbrev pub is_writing : Phase → Bool
is_writing Steal = true
is_writing Peek = true
is_writing Grab = true
is_writing WriteGrab = true
is_writing Release = true
is_writing _ = false

abbrev pub is_reading : Phase → Bool
is_reading Count = true
is_reading Uncount = true
is_reading TryUncount = true
is_reading HeadCount = true
is_reading HeadLook = true
is_reading ReadRelease = true
is_reading _ = false
