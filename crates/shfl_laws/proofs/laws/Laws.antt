-- The law of every phase.
use Rattle.shfl_core.specs.declared.phase.Phase.{Phase}
use Rattle.shfl_core.specs.declared.phase.Phase.TheVariants.{Idle, Steal, Init, Swap, Link, Close, Look, Begin, Next, Tail, Attr, Decide, After, Pick, Aim, Place, Mark, Give, Peek, Grab, WriteGrab, Take, Cut, Late, Ready, Open, Held, Release, Count, Uncount, TryUncount, HeadCount, HeadLook, ReadRelease}
use Rattle.shfl_core.specs.Lawful.{Terms, LawOf}
use Rattle.shfl_laws.proofs.laws.OutsideRows.{open-law, steal-law, release-law, read-release-law, count-law, uncount-law, try-uncount-law}
use Rattle.shfl_laws.proofs.laws.MoveRows.{idle-law, held-law}
use Rattle.shfl_laws.proofs.laws.InitRow.{init-law}
use Rattle.shfl_laws.proofs.laws.SwapRow.{swap-law}
use Rattle.shfl_laws.proofs.laws.NextRows.{link-law, pick-law, aim-law, place-law}
use Rattle.shfl_laws.proofs.laws.HeadLaws.{close-law, peek-law, grab-law, write-grab-law, head-count-law, head-look-law}
use Rattle.shfl_laws.proofs.laws.RoundReads.{next-law, tail-law, attr-law, decide-law, after-law}
use Rattle.shfl_laws.proofs.laws.MarkLaw.{mark-law}
use Rattle.shfl_laws.proofs.laws.GiveLaw.{give-law}
use Rattle.shfl_laws.proofs.laws.LeaveRows.{take-law, late-law}
use Rattle.shfl_laws.proofs.laws.CutRow.{cut-law}
use Rattle.shfl_laws.proofs.laws.ReadyLaw.{ready-law}
use Rattle.shfl_laws.proofs.laws.BeginLaw.{begin-law}
use Rattle.shfl_laws.proofs.laws.LookRow.{look-law}

pub laws : (t : Terms) (f : Phase) → LawOf t f
laws t Idle = idle-law t
laws t Steal = steal-law t
laws t Init = init-law t
laws t Swap = swap-law t
laws t Link = link-law t
laws t Close = close-law t
laws t Look = look-law t
laws t Begin = begin-law t
laws t Next = next-law t
laws t Tail = tail-law t
laws t Attr = attr-law t
laws t Decide = decide-law t
laws t After = after-law t
laws t Pick = pick-law t
laws t Aim = aim-law t
laws t Place = place-law t
laws t Mark = mark-law t
laws t Give = give-law t
laws t Peek = peek-law t
laws t Grab = grab-law t
laws t WriteGrab = write-grab-law t
laws t Take = take-law t
laws t Cut = cut-law t
laws t Late = late-law t
laws t Ready = ready-law t
laws t Open = open-law t
laws t Held = held-law t
laws t Release = release-law t
laws t Count = count-law t
laws t Uncount = uncount-law t
laws t TryUncount = try-uncount-law t
laws t HeadCount = head-count-law t
laws t HeadLook = head-look-law t
laws t ReadRelease = read-release-law t
