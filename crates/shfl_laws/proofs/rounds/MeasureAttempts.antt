-- What is left of a round, through another pass's attempt.
use Rattle.std.proofs.Common.{◌≡◌, ◌≢◌, ℕ, ◌==◌, Bool, true, false, cond, get_or-set_other, refl, sym, ap, ◌∙◌, subst}
use Rattle.std.specs.Prelude.{◌||◌}
use Rattle.shfl_line.specs.declared.events.Mode.{Mode}
use Rattle.shfl_line.specs.declared.events.Mode.TheVariants.{Write, Read}
use Rattle.shfl_line.specs.declared.events.LineEvent.TheVariants.{Steal as StealEvent, Nothing}
use Rattle.shfl_line.specs.Line.{Line}
use Rattle.shfl_line.specs.Steps.{after}
use Rattle.shfl_line.specs.Words.{held_of, closed_of}
use Rattle.shfl_core.specs.declared.phase.Phase.TheVariants.{Idle}
use Rattle.shfl_core.specs.declared.phase.PassState.{PassState}
use Rattle.shfl_core.specs.Words.{look, site}
use Rattle.shfl_core.specs.Plan.{attempt_plan}
use Rattle.shfl_core.specs.Take.{attempted}
use Rattle.shfl_core.specs.Waiting.{idle}
use Rattle.shfl_core.specs.Worlds.{known, tried}
use Rattle.shfl_core.specs.Phases.{is_round}
use Rattle.shfl_core.specs.Events.{attempt_event}
use Rattle.shfl_core.specs.Lawful.{Terms, count}
use Rattle.shfl_core.proofs.Lists.{seen-at}
use Rattle.shfl_laws.specs.RoundMeasure.{round_measure}
use Rattle.shfl_laws.specs.Rounds.{OtherAttemptKeeps}

-- an attempt shows that the pass took the lock, or nothing, and neither changes the line
won-keeps : (n : ℕ) (s : Line) (r p : ℕ) (m : Mode) (x : PassState) (b : Bool) → round_measure n (after s (cond b (StealEvent r m) Nothing)) p x ≡ round_measure n s p x
won-keeps n s r p m x true = refl
won-keeps n s r p m x false = refl

counted-keeps : (n : ℕ) (s : Line) (r p : ℕ) (m : Mode) (x : PassState) (b : Bool) → round_measure n (after s (cond b Nothing (StealEvent r m))) p x ≡ round_measure n s p x
counted-keeps n s r p m x true = refl
counted-keeps n s r p m x false = refl

shown-keeps : (n : ℕ) (s : Line) (r p k : ℕ) (mode : Mode) (x : PassState) → round_measure n (after s (attempt_event mode r k)) p x ≡ round_measure n s p x
shown-keeps n s r p k Write x = won-keeps n s r p Write x (k == 0)
shown-keeps n s r p k Read x = counted-keeps n s r p Read x (held_of k || closed_of k)

pub others-attempt-keeps : (t : Terms) → OtherAttemptKeeps t
others-attempt-keeps t w ok p r q mode a round at idles =
    let n : r ≢ p = λ i. (
    let e : known w.passes r ≡ q = (seen-at w.passes r q (idle r) at).0 in
    let b : is_round (known w.passes r).phase ≡ true = subst (λ z. is_round (known w.passes z).phase ≡ true) (sym i) round in
    let c : is_round q.phase ≡ true = ap (λ (z : PassState). is_round z.phase) (sym e) ∙ b in
    let d : is_round Idle ≡ true = ap is_round (sym idles) ∙ c in cc) in
    let same : known (tried w r q mode).passes p ≡ known w.passes p = get_or-set_other w.passes r p (attempted mode q.reg (look w.words (site (attempt_plan mode)))) (idle p) (λ i. n (sym i)) in (
      ap (λ (z : PassState). is_round z.phase) same ∙ round,
      (λ j. round_measure (count t) (a.shown j) p (same j)) ∙ shown-keeps (count t) ok.shown r p (look w.words (site (attempt_plan mode))) mode (known w.passes p),
    )
