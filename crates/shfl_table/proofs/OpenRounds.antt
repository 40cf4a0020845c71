-- A chooser is open at most while its pass is in a round.
use Rattle.std.proofs.Common.{◌≡◌, ℕ, Bool, true, false, refl, sym, ap, ◌∙◌}
use Rattle.shfl_core.specs.declared.phase.Phase.{Phase}
use Rattle.shfl_core.specs.declared.phase.Nap.{Nap}
use Rattle.shfl_core.specs.declared.phase.Nap.TheVariants.{Awake, Doze, Hear, Rouse, Ring}
use Rattle.shfl_core.specs.declared.phase.Registers.{Registers}
use Rattle.shfl_core.specs.declared.phase.PassState.{PassState}
use Rattle.shfl_core.specs.declared.phase.Rules.{Rules}
use Rattle.shfl_core.specs.Asking.{IsOpenInRounds, is_last_of_round, opens_round}
use Rattle.shfl_core.specs.Phases.{is_round}
use Rattle.shfl_core.specs.Plan.{is_resting}
use Rattle.shfl_core.specs.Take.{take, take_at, take_by}
use Rattle.shfl_core.specs.Waiting.{ask, ask_at}
use Rattle.shfl_core.specs.declared.phase.Ask.TheVariants.{Nothing}
use Rattle.shfl_core.proofs.Rounds.{round-opens, round-stays}
use Rattle.shfl_laws.proofs.laws.MoveLaws.{resting-is}

module _ (t : Rules) (n : ℕ) (c was asked now : Bool) where
  awake-step : (p : ℕ) (r : Registers) (f : Phase) → (opens_round (ask_at t r f) ≡ false → asked ≡ was) → (is_last_of_round f Awake ≡ true → now ≡ false) → (is_last_of_round f Awake ≡ false → now ≡ asked)
      → (was ≡ true → is_round f ≡ true) → now ≡ true → is_round (take_at t p r n c f).phase ≡ true
  awake-step p r f same ends goes_on within is = by (is_last_of_round f Awake) refl
    where
      by-ask : (b : Bool) → opens_round (ask_at t r f) ≡ b → is_last_of_round f Awake ≡ false → is_round (take_at t p r n c f).phase ≡ true
      by-ask true e l = round-opens t p r n c f e
      by-ask false e l = round-stays t p r n c f (within (sym (same e) ∙ (sym (goes_on l) ∙ is))) l

      by : (b : Bool) → is_last_of_round f Awake ≡ b → is_round (take_at t p r n c f).phase ≡ true
      by true l = absurd (let x : true ≡ false = sym is ∙ ends l in cc)
      by false l = by-ask (opens_round (ask_at t r f)) refl l

  -- a step after which the chooser was closed where it was the last of its round
  pub open-step : (q : PassState) → (opens_round (ask t q) ≡ false → asked ≡ was) → (is_last_of_round q.phase q.nap ≡ true → now ≡ false) → (is_last_of_round q.phase q.nap ≡ false → now ≡ asked)
      → IsOpenInRounds was q → IsOpenInRounds now (take t q.reg.me q n c)
  open-step q same ends goes_on within is = by q.nap refl
    where
      asleep : (z : Nap) → q.nap ≡ z → is_last_of_round q.phase z ≡ false → ask t (record q { nap = z }) ≡ Nothing → is_round q.phase ≡ true
      asleep z e l a = within (sym (same (ap (λ (k : Nap). opens_round (ask t (record q { nap = k }))) e ∙ ap opens_round a)) ∙ (sym (goes_on (ap (is_last_of_round q.phase) e ∙ l)) ∙ is))

      by : (z : Nap) → q.nap ≡ z → is_round (take t q.reg.me q n c).phase ≡ true
      by Awake e = ap (λ (k : Nap). is_round (take_by t q.reg.me q.reg n c k q.phase).phase) e ∙ awake-step q.reg.me q.reg q.phase
          (λ a. same (ap (λ (k : Nap). opens_round (ask t (record q { nap = k }))) e ∙ a)) (λ l. ends (ap (is_last_of_round q.phase) e ∙ l)) (λ l. goes_on (ap (is_last_of_round q.phase) e ∙ l)) within is
      by Doze e = ap (λ (k : Nap). is_round (take_by t q.reg.me q.reg n c k q.phase).phase) e ∙ asleep Doze e refl refl
      by Hear e = ap (λ (k : Nap). is_round (take_by t q.reg.me q.reg n c k q.phase).phase) e ∙ asleep Hear e refl refl
      by Rouse e = ap (λ (k : Nap). is_round (take_by t q.reg.me q.reg n c k q.phase).phase) e ∙ asleep Rouse e refl refl
      by (Ring whom) e = ap (λ (k : Nap). is_round (take_by t q.reg.me q.reg n c k q.phase).phase) e ∙ asleep (Ring whom) e refl refl

-- a pass that holds the lock and owes no step is in no round
pub rests-closed : (b : Bool) (q : PassState) → is_resting q ≡ true → IsOpenInRounds b q → b ≡ false
rests-closed false q rests within = refl
rests-closed true q rests within = absurd (let x : true ≡ false = sym (within refl) ∙ ap is_round (resting-is q rests).0 in cc)
