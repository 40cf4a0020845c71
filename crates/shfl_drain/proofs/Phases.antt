-- What the phases of a pass that waits for another have in common.
use Rattle.std.proofs.Common.{◌≡◌, ℕ, ◌⊎◌, Bool, true, false, refl, inl, inr, arith}
use Rattle.std.specs.Prelude.{◌&&◌, ◌==◌, not}
use Rattle.shfl_line.specs.declared.events.Mode.TheVariants.{Write, Read}
use Rattle.shfl_core.specs.declared.phase.Phase.{Phase}
use Rattle.shfl_core.specs.declared.phase.Phase.TheVariants as phase
use Rattle.shfl_core.specs.declared.phase.Nap.{Nap}
use Rattle.shfl_core.specs.declared.phase.Nap.TheVariants.{Awake, Doze, Hear, Rouse, Ring}
use Rattle.shfl_core.specs.declared.words.Word.TheVariants.{Lock, Next as NextOf, Bell}
use Rattle.shfl_core.specs.Words.{look, free_for}
use Rattle.shfl_core.specs.Phases.{is_holding, is_backing, queued_rank, rank, is_linking, is_round}
use Rattle.shfl_core.specs.Plan.{is_idle, is_held, is_awake}
use Rattle.shfl_core.specs.Owed.{fits}
use Rattle.shfl_core.specs.Worlds.{World}
use Rattle.shfl_core.specs.View.{view}
use Rattle.shfl_core.specs.Order.{is_head}
use Rattle.shfl_drain.specs.GoingOn.{waits_at, waits_by}

pub idle-is : (f : Phase) → is_idle f ≡ true → f ≡ phase.Idle
idle-is f h = grind arith

-- a pass that isn't about to act, by its phase and park state
pub idle-or-moving : (a b : Bool) → b ≡ false → (a ≡ true) ⊎ ((not a && not b) ≡ true)
idle-or-moving true b e = inl refl
idle-or-moving false true e = absurd (cc)
idle-or-moving false false e = inr refl

-- a sleeper stands where a waiter looks
pub hear-looks : (f : Phase) → fits Hear f ≡ true → f ≡ phase.Look
hear-looks phase.Look e = refl
hear-looks _ e = absurd (cc)

head-off : (a b : Bool) → (a && not b) ≡ true → b ≡ false
head-off a false e = refl
head-off true true e = absurd (cc)
head-off false true e = absurd (cc)

head-not : (a b : Bool) → (a && not b) ≡ true → b ≡ true → ⊥
head-not true true x y = cc
head-not true false x y = cc
head-not false b x y = cc

module _ (w : World) (p : ℕ) where
  -- who waits is awake at a phase of waiting, or sleeps
  pub waits-how : (n : Nap) (f : Phase) → waits_by w p n f ≡ true → ((n ≡ Awake) × (waits_at w p f ≡ true)) ⊎ ((n ≡ Hear) × ((look w.words (Bell p) == 0) ≡ true))
  waits-how Awake f e = inl (refl, e)
  waits-how Hear f e = inr (refl, e)
  waits-how Doze f e = absurd (cc)
  waits-how Rouse f e = absurd (cc)
  waits-how (Ring whom) f e = absurd (cc)

  -- whoever waits is in the queue
  pub waits-queued : (f : Phase) → waits_at w p f ≡ true → queued_rank (rank f) ≡ true
  waits-queued phase.Look e = refl
  waits-queued phase.Begin e = refl
  waits-queued phase.Peek e = refl
  waits-queued phase.HeadLook e = refl
  waits-queued phase.Late e = refl
  waits-queued phase.Next e = refl
  waits-queued phase.Tail e = refl
  waits-queued phase.Attr e = refl
  waits-queued phase.Decide e = refl
  waits-queued phase.After e = refl
  waits-queued phase.Pick e = refl
  waits-queued phase.Aim e = refl
  waits-queued phase.Place e = refl
  waits-queued phase.Mark e = absurd (cc)
  waits-queued phase.Give e = refl
  waits-queued _ e = absurd (cc)

  -- of the holders only one that looks for its successor waits
  pub holder-waits : (f : Phase) → is_holding f ≡ true → waits_at w p f ≡ true → f ≡ phase.Late
  holder-waits phase.Late e d = refl
  holder-waits phase.Take e d = absurd (cc)
  holder-waits phase.Cut e d = absurd (cc)
  holder-waits phase.Ready e d = absurd (cc)
  holder-waits phase.Open e d = absurd (cc)
  holder-waits phase.Held e d = absurd (cc)
  holder-waits phase.Release e d = absurd (cc)
  holder-waits phase.ReadRelease e d = absurd (cc)
  holder-waits _ e d = absurd (cc)

  -- of those that are counted only the head waits
  pub counted-waits : (f : Phase) → is_backing f ≡ true → waits_at w p f ≡ true → f ≡ phase.HeadLook
  counted-waits phase.HeadLook e d = refl
  counted-waits phase.Uncount e d = absurd (cc)
  counted-waits phase.TryUncount e d = absurd (cc)
  counted-waits _ e d = absurd (cc)

  -- who has joined and has yet to write its name waits for nobody
  pub linking-waits : (f : Phase) → is_linking f ≡ true → waits_at w p f ≡ true → ⊥
  linking-waits phase.Link e d = cc
  linking-waits _ e d = cc

  -- the queue's head waits where it finds the lock taken, or leaves
  pub head-waits : (f : Phase) → waits_at w p f ≡ true → is_head (view w) p ≡ true → (f ≡ phase.Peek) ⊎ ((f ≡ phase.HeadLook) ⊎ (f ≡ phase.Late))
  head-waits phase.Peek e h = inl refl
  head-waits phase.HeadLook e h = inr (inl refl)
  head-waits phase.Late e h = inr (inr refl)
  head-waits phase.Look e h = absurd (head-not true (is_head (view w) p) e h)
  head-waits phase.Begin e h = absurd (head-not true (is_head (view w) p) e h)
  head-waits phase.Mark e h = absurd (cc)
  head-waits f e h = absurd (head-not (is_round f) (is_head (view w) p) e h)

  -- why a pass waits that is awake
  pub data Kind (f : Phase) : Type 0 where
    Writer : f ≡ phase.Peek → not (free_for Write (look w.words Lock)) ≡ true → Kind f
    Reader : f ≡ phase.HeadLook → not (free_for Read (look w.words Lock)) ≡ true → Kind f
    Leaver : f ≡ phase.Late → (look w.words (NextOf p) == 0) ≡ true → Kind f
    Uncalled : is_head (view w) p ≡ false → Kind f

  pub waits-kind : (f : Phase) → waits_at w p f ≡ true → Kind f
  waits-kind phase.Peek e = Writer refl e
  waits-kind phase.HeadLook e = Reader refl e
  waits-kind phase.Late e = Leaver refl e
  waits-kind phase.Look e = Uncalled (head-off true (is_head (view w) p) e)
  waits-kind phase.Begin e = Uncalled (head-off true (is_head (view w) p) e)
  waits-kind phase.Mark e = absurd (cc)
  waits-kind f e = Uncalled (head-off (is_round f) (is_head (view w) p) e)

  -- a pass at these phases goes on
  pub goes-link : (n : Nap) → fits n phase.Link ≡ true → ((not (is_idle phase.Link) && not (is_held phase.Link && is_awake n)) && not (waits_by w p n phase.Link)) ≡ true
  goes-link Awake e = refl
  goes-link Doze e = absurd (cc)
  goes-link Hear e = absurd (cc)
  goes-link Rouse e = absurd (cc)
  goes-link (Ring whom) e = absurd (cc)

  pub goes-ready : (n : Nap) → fits n phase.Ready ≡ true → ((not (is_idle phase.Ready) && not (is_held phase.Ready && is_awake n)) && not (waits_by w p n phase.Ready)) ≡ true
  goes-ready Awake e = refl
  goes-ready Doze e = absurd (cc)
  goes-ready Hear e = absurd (cc)
  goes-ready Rouse e = absurd (cc)
  goes-ready (Ring whom) e = absurd (cc)

  -- and so does one that is about to wake another
  pub goes-ring : (whom : ℕ) (f : Phase) → fits (Ring whom) f ≡ true → ((not (is_idle f) && not (is_held f && is_awake (Ring whom))) && not (waits_by w p (Ring whom) f)) ≡ true
  goes-ring whom phase.Held e = refl
  goes-ring whom phase.Give e = refl
  goes-ring whom phase.Next e = refl
  goes-ring whom _ e = absurd (cc)
