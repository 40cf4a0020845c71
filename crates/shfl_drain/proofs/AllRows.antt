-- Every step and every release leaves less to be done, or no more where the pass waits for another.
use Rattle.std.proofs.Common.{◌≡◌, ℕ, ◌<◌, Bool, true, false, cond, ◌==◌, length, refl, ap}
use Rattle.std.specs.Prelude.{◌||◌, ◌&&◌, not, bit_or}
use Rattle.shfl_line.specs.declared.events.LineEvent.{LineEvent}
use Rattle.shfl_line.specs.declared.events.LineEvent.TheVariants as event
use Rattle.shfl_line.specs.declared.words.TheConstants.{PARKED}
use Rattle.shfl_line.specs.Words.{ready_of, spin_of}
use Rattle.shfl_core.specs.declared.phase.Phase.{Phase}
use Rattle.shfl_core.specs.declared.phase.Phase.TheVariants as phase
use Rattle.shfl_core.specs.declared.phase.Nap.{Nap}
use Rattle.shfl_core.specs.declared.phase.Nap.TheVariants.{Awake, Doze, Hear, Rouse, Ring}
use Rattle.shfl_core.specs.declared.words.Word.TheVariants.{State as StateOf, Bell}
use Rattle.shfl_core.specs.Words.{look, site}
use Rattle.shfl_core.specs.Phases.{is_round}
use Rattle.shfl_core.specs.Plan.{plan_by, moving, is_awake, is_held, is_idle, is_resting}
use Rattle.shfl_core.specs.Take.{take_by}
use Rattle.shfl_core.specs.Worlds.{World, known, after_access}
use Rattle.shfl_core.specs.Events.{event_at}
use Rattle.shfl_core.specs.Lawful.{Terms, Lawful, Advances}
use Rattle.shfl_laws.specs.Rounds.{left}
use Rattle.shfl_drain.specs.GoingOn.{waits_by}
use Rattle.shfl_drain.proofs.Stages.{always-falls}
use Rattle.shfl_drain.proofs.Row.{found, goes, Leaves, RoundsKept, RoundFalls, later}
use Rattle.shfl_drain.proofs.RoundRows.{inner-row}
use Rattle.shfl_drain.proofs.EndRows.{give-row, begin-row}
use Rattle.shfl_drain.proofs.HeadRows.{look-row, late-row, peek-row, grab-row, write-row}
use Rattle.shfl_drain.proofs.LookRow.{looked-row}
use Rattle.shfl_drain.proofs.MarkRow.{mark-row}
use Rattle.shfl_drain.proofs.NapRows.{doze-row, hear-row, rouse-row, ring-row}

module _ (t : Terms) (w : World) (ok : Lawful t w) (p : ℕ) (below : p < length w.passes) (c : Bool) where
  -- the step of the pass, where it has one to make, by its park state and its phase
  abbrev pub step_event : Bool → Nap → Phase → LineEvent
  step_event b x f = cond b (cond (is_awake x) (event_at t.rules p (known w.passes p).reg (look w.words (site (plan_by t.rules p (known w.passes p).reg x f))) f) event.Nothing) event.Nothing

  abbrev pub step_world : Bool → Nap → Phase → World
  step_world b x f = cond b (after_access w p (plan_by t.rules p (known w.passes p).reg x f) (take_by t.rules p (known w.passes p).reg (look w.words (site (plan_by t.rules p (known w.passes p).reg x f))) c x f)) w

  abbrev pub StepLeaves : Bool → Nap → Phase → Type 0
  StepLeaves b x f = (a : Advances t w ok (step_event b x f) (step_world b x f)) → RoundsKept t w ok (step_world b x f) a.lawful p
      → (is_awake x ≡ true → RoundFalls t w ok (step_world b x f) a.lawful p)
      → (is_awake x ≡ false → is_round (known w.passes p).phase ≡ true → left t (step_world b x f) a.lawful p ≡ left t w ok p)
      → Leaves t w ok (step_world b x f) a.lawful (waits_by w p x f)

  -- a pass that is awake
  by-phase : (known w.passes p).nap ≡ Awake → (f : Phase) → (known w.passes p).phase ≡ f → is_idle f ≡ false → is_held f ≡ false → StepLeaves true Awake f
  by-phase nap phase.Idle at i h a kept falls same = absurd (cc)
  by-phase nap phase.Held at i h a kept falls same = absurd (cc)
  by-phase nap phase.Look at i h a kept falls same = looked-row t w ok p below c nap at a kept
  by-phase nap phase.Begin at i h a kept falls same = begin-row t w ok p below c nap at a kept
  by-phase nap phase.Next at i h a kept falls same = inner-row t w ok p below phase.Next c nap at a kept (falls refl) refl
  by-phase nap phase.Tail at i h a kept falls same = inner-row t w ok p below phase.Tail c nap at a kept (falls refl) refl
  by-phase nap phase.Attr at i h a kept falls same = inner-row t w ok p below phase.Attr c nap at a kept (falls refl) refl
  by-phase nap phase.Decide at i h a kept falls same = inner-row t w ok p below phase.Decide c nap at a kept (falls refl) refl
  by-phase nap phase.After at i h a kept falls same = inner-row t w ok p below phase.After c nap at a kept (falls refl) refl
  by-phase nap phase.Pick at i h a kept falls same = inner-row t w ok p below phase.Pick c nap at a kept (falls refl) refl
  by-phase nap phase.Aim at i h a kept falls same = inner-row t w ok p below phase.Aim c nap at a kept (falls refl) refl
  by-phase nap phase.Place at i h a kept falls same = inner-row t w ok p below phase.Place c nap at a kept (falls refl) refl
  by-phase nap phase.Mark at i h a kept falls same = mark-row t w ok p below c at a
  by-phase nap phase.Give at i h a kept falls same = give-row t w ok p below c nap at a kept
  by-phase nap phase.Peek at i h a kept falls same = peek-row t w ok p below c nap at a kept
  by-phase nap phase.Grab at i h a kept falls same = grab-row t w ok p below c nap at a kept
  by-phase nap phase.WriteGrab at i h a kept falls same = write-row t w ok p below c nap at a kept
  by-phase nap phase.HeadLook at i h a kept falls same = look-row t w ok p below c nap at a kept
  by-phase nap phase.Late at i h a kept falls same = late-row t w ok p below c nap at a kept
  by-phase nap phase.Steal at i h a kept falls same = later t w ok p below phase.Steal c refl nap at a kept (goes t w p phase.Steal c) refl (always-falls t.rules p (known w.passes p).reg (found t w p phase.Steal) c phase.Steal refl)
  by-phase nap phase.Init at i h a kept falls same = later t w ok p below phase.Init c refl nap at a kept (goes t w p phase.Init c) refl (always-falls t.rules p (known w.passes p).reg (found t w p phase.Init) c phase.Init refl)
  by-phase nap phase.Swap at i h a kept falls same = later t w ok p below phase.Swap c refl nap at a kept (goes t w p phase.Swap c) refl (always-falls t.rules p (known w.passes p).reg (found t w p phase.Swap) c phase.Swap refl)
  by-phase nap phase.Link at i h a kept falls same = later t w ok p below phase.Link c refl nap at a kept (goes t w p phase.Link c) refl (always-falls t.rules p (known w.passes p).reg (found t w p phase.Link) c phase.Link refl)
  by-phase nap phase.Close at i h a kept falls same = later t w ok p below phase.Close c refl nap at a kept (goes t w p phase.Close c) refl (always-falls t.rules p (known w.passes p).reg (found t w p phase.Close) c phase.Close refl)
  by-phase nap phase.Take at i h a kept falls same = later t w ok p below phase.Take c refl nap at a kept (goes t w p phase.Take c) refl (always-falls t.rules p (known w.passes p).reg (found t w p phase.Take) c phase.Take refl)
  by-phase nap phase.Cut at i h a kept falls same = later t w ok p below phase.Cut c refl nap at a kept (goes t w p phase.Cut c) refl (always-falls t.rules p (known w.passes p).reg (found t w p phase.Cut) c phase.Cut refl)
  by-phase nap phase.Ready at i h a kept falls same = later t w ok p below phase.Ready c refl nap at a kept (goes t w p phase.Ready c) refl (always-falls t.rules p (known w.passes p).reg (found t w p phase.Ready) c phase.Ready refl)
  by-phase nap phase.Open at i h a kept falls same = later t w ok p below phase.Open c refl nap at a kept (goes t w p phase.Open c) refl (always-falls t.rules p (known w.passes p).reg (found t w p phase.Open) c phase.Open refl)
  by-phase nap phase.Release at i h a kept falls same = later t w ok p below phase.Release c refl nap at a kept (goes t w p phase.Release c) refl (always-falls t.rules p (known w.passes p).reg (found t w p phase.Release) c phase.Release refl)
  by-phase nap phase.Count at i h a kept falls same = later t w ok p below phase.Count c refl nap at a kept (goes t w p phase.Count c) refl (always-falls t.rules p (known w.passes p).reg (found t w p phase.Count) c phase.Count refl)
  by-phase nap phase.Uncount at i h a kept falls same = later t w ok p below phase.Uncount c refl nap at a kept (goes t w p phase.Uncount c) refl (always-falls t.rules p (known w.passes p).reg (found t w p phase.Uncount) c phase.Uncount refl)
  by-phase nap phase.TryUncount at i h a kept falls same = later t w ok p below phase.TryUncount c refl nap at a kept (goes t w p phase.TryUncount c) refl (always-falls t.rules p (known w.passes p).reg (found t w p phase.TryUncount) c phase.TryUncount refl)
  by-phase nap phase.HeadCount at i h a kept falls same = later t w ok p below phase.HeadCount c refl nap at a kept (goes t w p phase.HeadCount c) refl (always-falls t.rules p (known w.passes p).reg (found t w p phase.HeadCount) c phase.HeadCount refl)
  by-phase nap phase.ReadRelease at i h a kept falls same = later t w ok p below phase.ReadRelease c refl nap at a kept (goes t w p phase.ReadRelease c) refl (always-falls t.rules p (known w.passes p).reg (found t w p phase.ReadRelease) c phase.ReadRelease refl)

  both-off : (a b : Bool) → (not a && not b) ≡ true → (a ≡ false) × (b ≡ false)
  both-off true b e = absurd (cc)
  both-off false true e = absurd (cc)
  both-off false false e = (refl, refl)

  held-off : (a b : Bool) → (a && b) ≡ false → b ≡ true → a ≡ false
  held-off true true e f = e
  held-off true false e f = absurd (cc)
  held-off false b e f = refl

  pub by-nap : moving (known w.passes p) ≡ true → (x : Nap) → (known w.passes p).nap ≡ x → StepLeaves true x (known w.passes p).phase
  by-nap m Awake e = let o = both-off (is_idle (known w.passes p).phase) (is_resting (known w.passes p)) m in
      by-phase e (known w.passes p).phase refl o.0 (held-off (is_held (known w.passes p).phase) (is_awake (known w.passes p).nap) o.1 (ap is_awake e))
  by-nap m Doze e = λ a kept falls same. doze-row t w ok p below e (bit_or (look w.words (StateOf p)) PARKED) (ready_of (look w.words (StateOf p)) || spin_of (look w.words (StateOf p))) a kept
  by-nap m Hear e = λ a kept falls same. hear-row t w ok p below e 0 (look w.words (Bell p) == 1) refl a kept
  by-nap m Rouse e = λ a kept falls same. rouse-row t w ok p below e a kept
  by-nap m (Ring whom) e = λ a kept falls same. ring-row t w ok p below whom e a kept (same refl)
