-- What a lock shows doesn't change where a pass begins to take it or to give it back.
use Rattle.std.proofs.Common.{◌≡◌, ℕ, zero, suc, ◌<◌, Bool, true, false, cond, ◌&&◌, ◌==◌, List, [], ◌∷◌, ◌++◌, length, length-set, refl, sym, ap, ◌∙◌, subst}
use Rattle.std.proofs.Math.Decide.{ℕ_discrete}
use Rattle.std.proofs.lemmas.List.{get_or-set_same, get_or-set_other}
use Rattle.shfl_line.specs.declared.events.Mode.{Mode}
use Rattle.shfl_line.specs.declared.events.Mode.TheVariants.{Write as Alone, Read as Beside}
use Rattle.shfl_line.specs.Words.{ready_of, shuffler_of, batch_of}
use Rattle.shfl_core.specs.declared.phase.Phase.{Phase}
use Rattle.shfl_core.specs.declared.phase.Phase.TheVariants.{Idle, Held}
use Rattle.shfl_core.specs.declared.phase.PassState.{PassState}
use Rattle.shfl_core.specs.declared.words.Word.TheVariants.{Next, State}
use Rattle.shfl_core.specs.Words.{look}
use Rattle.shfl_core.specs.Phases.{is_holding, is_queued, is_fore, is_round, is_linking, has_hand}
use Rattle.shfl_core.specs.Plan.{is_idle, is_held, is_awake, is_resting}
use Rattle.shfl_core.specs.ShownLine.{least, each_below, holders, is_ready, then, or_else, head_of, successor_of, walk, named, role_of, shown_line}
use Rattle.shfl_core.specs.Take.{acquired, released, entry, exit}
use Rattle.shfl_core.specs.Worlds.{World, Move, known, placed_at, admitted}
use Rattle.shfl_core.specs.Runner.{Lock, moved}
use Rattle.shfl_core.specs.Waiting.{idle}
use Rattle.shfl_sched.specs.declared.schedule.Act.{Act}
use Rattle.shfl_sched.specs.declared.schedule.Act.TheVariants as acts
use Rattle.shfl_sched.specs.declared.schedule.Event.{Event}
use Rattle.shfl_sched.specs.Run.{is_step, move_of}

abbrev held_at : PassState → ℕ → List (ℕ × Mode)
held_at a n = cond (is_holding a.phase) ((n, a.reg.mode) ∷ []) []

-- of two states of a pass a lock shows the same
record ShowsSame (a b : PassState) : Type 0 where
  held : (n : ℕ) → held_at a n ≡ held_at b n
  ready : is_ready a.phase ≡ is_ready b.phase
  fore : is_fore a ≡ is_fore b
  queued : is_queued a ≡ is_queued b
  linking : is_linking a.phase ≡ is_linking b.phase
  hand : has_hand a.phase ≡ has_hand b.phase
  round : is_round a.phase ≡ is_round b.phase
  heir : a.reg.heir ≡ b.reg.heir
  before : a.reg.before ≡ b.reg.before
  cand : a.reg.cand ≡ b.reg.cand

shows-itself : (a : PassState) → ShowsSame a a
shows-itself a = record { held = λ n. refl; ready = refl; fore = refl; queued = refl; linking = refl; hand = refl; round = refl; heir = refl; before = refl; cand = refl }

-- two worlds with the same words, whose passes show the same
module _ (w v : World) (words : w.words ≡ v.words) (long : length w.passes ≡ length v.passes) (each : (p : ℕ) → ShowsSame (known w.passes p) (known v.passes p)) where
  holders-same : (n : ℕ) → holders (known w.passes) n ≡ holders (known v.passes) n
  holders-same zero = refl
  holders-same (suc n) = λ i. holders-same n i ++ (each n).held n i

  head-same : head_of w ≡ head_of v
  head-same = λ i. or_else (then (least (λ p. (each p).ready i) (long i)) (λ p. (each p).heir i))
      (or_else (least (λ p. (each p).fore i) (long i)) (least (λ p. (each p).queued i && ready_of (look (words i) (State p))) (long i)))

  next-same : (a : ℕ) → successor_of w a ≡ successor_of v a
  next-same a = λ i. or_else (look (words i) (Next a)) (least (λ p. (each p).linking i && ((each p).before i == a)) (long i))

  walk-same : (n link : ℕ) → walk w n link ≡ walk v n link
  walk-same zero link = refl
  walk-same (suc n) zero = refl
  walk-same (suc n) (suc a) = ap (λ (l : List ℕ). a ∷ l) (walk-same n (successor_of w a) ∙ ap (walk v n) (next-same a))

  shows-same : shown_line w ≡ shown_line v
  shows-same =
      let hold = holders-same (length w.passes) ∙ ap (holders (known v.passes)) long in
      let line = walk-same (length w.passes) (head_of w) ∙ (λ i. walk v (long i) (head-same i)) in
      λ i. record {
        hold = hold i;
        line = line i;
        hand = named (then (least (λ p. (each p).hand i) (long i)) (λ p. (each p).cand i));
        role = role_of (least (λ p. (each p).round i) (long i)) (least (λ p. (each p).queued i && shuffler_of (look (words i) (State p))) (long i));
        mark = each_below (λ p. cond ((each p).queued i) (batch_of (look (words i) (State p))) 0) (long i);
      }

idle-is : (f : Phase) → is_idle f ≡ true → f ≡ Idle
idle-is Idle h = refl
idle-is _ h = cc

held-is : (f : Phase) (rest : Bool) → is_held f && rest ≡ true → f ≡ Held
held-is Held rest h = refl
held-is _ rest h = cc

-- a pass that begins to take the lock shows what an idle one does
entering : (m : Mode) (a : PassState) → ShowsSame a (acquired m a)
entering m a = go (is_idle a.phase) refl
  where
    of_mode : (m : Mode) → a.phase ≡ Idle → ShowsSame a (record a { phase = entry m; reg = record a.reg { mode = m } })
    of_mode Alone is = record { held = λ n. rw is refl; ready = rw is refl; fore = rw is refl; queued = rw is refl; linking = rw is refl; hand = rw is refl; round = rw is refl; heir = refl; before = refl; cand = refl }
    of_mode Beside is = record { held = λ n. rw is refl; ready = rw is refl; fore = rw is refl; queued = rw is refl; linking = rw is refl; hand = rw is refl; round = rw is refl; heir = refl; before = refl; cand = refl }

    go : (b : Bool) → is_idle a.phase ≡ b → ShowsSame a (cond b (record a { phase = entry m; reg = record a.reg { mode = m } }) a)
    go false h = shows-itself a
    go true h = of_mode m (idle-is a.phase h)

-- one that begins to give it back shows what a holder does
leaving : (a : PassState) → ShowsSame a (released a)
leaving a = go (is_resting a) refl
  where
    of_mode : (m : Mode) → a.phase ≡ Held → ShowsSame a (record a { phase = exit m })
    of_mode Alone is = record { held = λ n. rw is refl; ready = rw is refl; fore = rw is refl; queued = rw is refl; linking = rw is refl; hand = rw is refl; round = rw is refl; heir = refl; before = refl; cand = refl }
    of_mode Beside is = record { held = λ n. rw is refl; ready = rw is refl; fore = rw is refl; queued = rw is refl; linking = rw is refl; hand = rw is refl; round = rw is refl; heir = refl; before = refl; cand = refl }

    go : (b : Bool) → is_resting a ≡ b → ShowsSame a (cond b (record a { phase = exit a.reg.mode }) a)
    go false h = shows-itself a
    go true h = of_mode a.reg.mode (held-is a.phase (is_awake a.nap) h)

-- a pass that stands elsewhere and shows the same changes nothing of what the lock shows
placed-shows : (w : World) (p : ℕ) (x : PassState) → p < length w.passes → ShowsSame (known w.passes p) x → shown_line w ≡ shown_line (placed_at w p x)
placed-shows w p x inside same = shows-same w (placed_at w p x) refl (sym (length-set w.passes p x)) each
  where
    each : (q : ℕ) → ShowsSame (known w.passes q) (known (placed_at w p x).passes q)
    each q = go (ℕ_discrete q p)
      where
        go : Dec (q ≡ p) → ShowsSame (known w.passes q) (known (placed_at w p x).passes q)
        go (yes e) = rw e (subst (ShowsSame (known w.passes p)) (sym (get_or-set_same w.passes p x (idle p) inside)) same)
        go (no n) = subst (ShowsSame (known w.passes q)) (sym (get_or-set_other w.passes p q x (idle q) n)) (shows-itself (known w.passes q))

-- the lock shows the same after a move that is no step, and after one that isn't admitted
module _ (a : Lock) (e : Event) (choice : Bool) (inside : e.pass < length a.world.passes) where
  abbrev the-move : Move
  the-move = move_of e.act e.pass choice

  kept : (b : Bool) (v w : World) → shown_line w ≡ shown_line v → shown_line w ≡ shown_line (cond b v w)
  kept true v w same = same
  kept false v w same = refl

  pub unmoved : is_step e.act ≡ false → shown_line a.world ≡ shown_line (moved a the-move).world
  unmoved still = by_act e.act still
    where
      by_act : (act : Act) → is_step act ≡ false → shown_line a.world ≡ shown_line (moved a (move_of act e.pass choice)).world
      by_act acts.Write still = kept (is_idle (known a.world.passes e.pass).phase) _ a.world (placed-shows a.world e.pass _ inside (entering Alone (known a.world.passes e.pass)))
      by_act acts.Read still = kept (is_idle (known a.world.passes e.pass).phase) _ a.world (placed-shows a.world e.pass _ inside (entering Beside (known a.world.passes e.pass)))
      by_act acts.Free still = kept (is_resting (known a.world.passes e.pass)) _ a.world (placed-shows a.world e.pass _ inside (leaving (known a.world.passes e.pass)))
      by_act acts.Step still = cc

  pub refused : admitted a.world the-move ≡ false → shown_line a.world ≡ shown_line (moved a the-move).world
  refused no-move = rw no-move refl
