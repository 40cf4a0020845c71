-- What a seat that waits has asked, and its chooser was told.
use Rattle.std.proofs.Common.{◌≡◌, ℕ, Bool, true, false, List, ◌++◌, flat_map, refl, sym, ap, ◌∙◌, subst, ⊎_elim, not}
use Rattle.std.specs.Prelude.{Option}
use Rattle.shfl_line.specs.declared.words.Attr.{Attr}
use Rattle.shfl_line.specs.declared.choosers.Told.{Told}
use Rattle.shfl_line.specs.declared.events.Mode.{Mode}
use Rattle.shfl_line.specs.declared.events.Mode.TheVariants.{Write, Read}
use Rattle.shfl_line.specs.Policies.{Adds}
use Rattle.shfl_line.proofs.Rounds.{AsksSoFar, SoFar, asks-first, asks-more, asks-whole}
use Rattle.shfl_core.specs.declared.phase.Ask.{Ask}
use Rattle.shfl_core.specs.declared.phase.Ask.TheVariants.{Nothing, Skip, Should}
use Rattle.shfl_core.specs.declared.phase.PassState.{PassState}
use Rattle.shfl_core.specs.Asking.{answer_of, step_told}
use Rattle.shfl_core.specs.Phases.{is_round}
use Rattle.shfl_core.specs.Plan.{moving}
use Rattle.shfl_core.specs.Waiting.{ask}
use Rattle.shfl_core.proofs.Rounds.{told-step}
use Rattle.shfl_laws.proofs.laws.MoveLaws.{resting-is}
use Rattle.shfl_arena.specs.SeatModels.{SeatModel, entering}
use Rattle.shfl_arena.specs.SeatSteps.{TakesStep}
use Rattle.shfl_arena.specs.SeatViews.{decision_on, step_decisions}
use Rattle.shfl_arena.specs.Waits.{AsksInRounds, TriedInVain, WaitsFor, answers_of}
use Rattle.shfl_arena.proofs.Threads.{still-is}
use Rattle.shfl_arena.proofs.WaitSteps.{waits-after, waits-first}

-- one ask has one answer
answers-entry : (anchor : Attr) (choice : Bool) (a : Ask) → flat_map (answers_of anchor) (decision_on choice a) ≡ answer_of anchor a choice
answers-entry anchor choice Nothing = refl
answers-entry anchor choice (Skip batch) = refl
answers-entry anchor choice (Should waiter batch) = refl

entering-out : (k : ℕ) (m : Mode) → is_round (entering k m).phase ≡ false
entering-out k Write = refl
entering-out k Read = refl

still-out : (q : PassState) → moving q ≡ false → is_round q.phase ≡ false
still-out q still = ⊎_elim (λ f. ap is_round f) (λ r. ap is_round (resting-is q r).0) (still-is q still)

module _ {X : Type 0} (anchor : Attr) where
  abbrev pub AsksMeanwhile : SeatModel X → SeatModel X → Option (List Told) → Option (List Told) → Type 0
  AsksMeanwhile old now told told' = AsksSoFar (answers_of anchor) (is_round now.own.phase) old.decisions now.decisions told told'

  begun : (lock : ℕ) (mode : Mode) (old mid new : SeatModel X) (told : Option (List Told)) → mid.decisions ≡ old.decisions
      → new ≡ record mid { lock = lock; own = entering mid.own.reg.me mode } → AsksMeanwhile old new told told
  begun lock mode old mid new told same e = subst (λ b. AsksSoFar (answers_of anchor) b old.decisions new.decisions told told)
      (sym (ap (λ (z : SeatModel X). is_round z.own.phase) e ∙ entering-out mid.own.reg.me mode))
      (asks-first (answers_of anchor) old.decisions new.decisions told (ap (λ (z : SeatModel X). z.decisions) e ∙ same))

  -- a seat that tried in vain, and then began to take the lock
  pub begins-to-wait : (lock : ℕ) (mode : Mode) (attempts : ℕ) (old mid new : SeatModel X) (told : Option (List Told)) (began : Bool) → TriedInVain {X = X} mode attempts old mid
      → began ≡ not (moving mid.own) → (began ≡ true → new ≡ record mid { lock = lock; own = entering mid.own.reg.me mode }) → WaitsFor {X = X} lock mode old new × AsksMeanwhile old new told told
  begins-to-wait lock mode attempts old mid new told began v answer after = let e = after (answer ∙ ap not v.rests) in
      (waits-after lock mode attempts old mid new v (waits-first lock mode mid new e), begun lock mode old mid new told v.decisions e)

  pub asks-step : (old now new : SeatModel X) (choice : Bool) (a b c : Option (List Told)) → AsksMeanwhile old now a b → TakesStep {X = X} now choice new → Adds b c (step_told anchor now.arena.rules now.own choice)
      → AsksMeanwhile old new a c
  asks-step old now new choice a b c so_far s add =
      asks-more (answers_of anchor) (is_round now.own.phase) (is_round new.own.phase) old.decisions now.decisions new.decisions (step_decisions now.arena.rules now.own choice) a b c (answer_of anchor (ask now.arena.rules now.own) choice) so_far
      (ap (λ (z : SeatModel X). z.decisions) s.row) (answers-entry anchor choice (ask now.arena.rules now.own))
      (λ xs h. subst (λ (q : PassState). SoFar (is_round q.phase) (xs ++ answer_of anchor (ask now.arena.rules now.own) choice) a c) (sym (ap (λ (z : SeatModel X). z.own) s.row))
      (told-step anchor now.arena.rules s.found choice xs a b c now.own h add))

  -- a seat that has no step to make is in no round
  pub asks-done : (old now : SeatModel X) (a b : Option (List Told)) → moving now.own ≡ false → AsksMeanwhile old now a b → AsksInRounds anchor old.decisions now.decisions a b
  asks-done old now a b still s = asks-whole (answers_of anchor) old.decisions now.decisions a b
      (subst (λ z. AsksSoFar (answers_of anchor) z old.decisions now.decisions a b) (still-out now.own still) s)
