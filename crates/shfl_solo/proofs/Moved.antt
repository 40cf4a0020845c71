-- What an acquire, a release and a step make of the lock, where a pass stands at `own`.
use Rattle.std.proofs.Common.{◌≡◌, ℕ, ◌<◌, Bool, true, false, cond, List, length, set, get_or, sym, refl, ap, ◌∙◌, subst}
use mathlib.Core.Option.{some}
use lib.ListN.{get_elem?}
use Rattle.shfl_line.specs.declared.events.Mode.{Mode}
use Rattle.shfl_core.specs.declared.phase.Rules.{Rules}
use Rattle.shfl_core.specs.declared.phase.PassState.{PassState}
use Rattle.shfl_core.specs.Words.{site, look, written}
use Rattle.shfl_core.specs.Plan.{plan, moving, is_idle, is_resting}
use Rattle.shfl_core.specs.Take.{take, acquired, released, entry, exit}
use Rattle.shfl_core.specs.Waiting.{idle}
use Rattle.shfl_core.specs.Worlds.{World, known, placed_at, stepped, Acquire, Release, Step}
use Rattle.shfl_core.specs.Runner.{Lock, moved}
use Rattle.shfl_core.proofs.Lists.{seen-at, at-read, set-again}
use Rattle.shfl_solo.specs.Rule.{lock}
use Rattle.shfl_solo.specs.Steps.{MakesRow}

-- the pass that was read
pub read : (rules : Rules) (words : List ℕ) (passes : List PassState) (m : Lock) (p : ℕ) (own : PassState) → lock rules words passes ≡ m → p < length m.world.passes → own ≡ get_or passes p own → get_elem? passes p ≡ some own
read rules words passes m p own is h e = at-read passes p own (subst (λ (z : Lock). p < length z.world.passes) (sym is) h) ∙ ap some (sym e)

module _ (rules : Rules) (words : List ℕ) (passes : List PassState) (p : ℕ) (own : PassState) (at : get_elem? passes p ≡ some own) where
  abbrev w : World
  w = record { words = words; passes = passes }

  pub known-is : known passes p ≡ own
  known-is = (seen-at passes p own (idle p) at).0

  maybe : (b : Bool) (q : PassState) → placed_at (record { words = words; passes = passes }) p (cond b q own) ≡ cond b (placed_at (record { words = words; passes = passes }) p (cond b q own)) (record { words = words; passes = passes })
  maybe true q = refl
  maybe false q = λ j. record { words = words; passes = set-again passes p own at j }

  pub acquire-told : (m : Lock) (mode : Mode) (q : PassState) → lock rules words passes ≡ m → q ≡ acquired mode own → lock rules words (set passes p q) ≡ moved m (Acquire p mode)
  acquire-told m mode q is e = subst (λ (z : Lock). lock rules words (set passes p q) ≡ moved z (Acquire p mode)) is
      ((λ j. lock rules words (set passes p (e j))) ∙ ((λ j. record { rules = rules; world = maybe (is_idle own.phase) (record own { phase = entry mode; reg = record own.reg { mode = mode } }) j })
      ∙ (λ j. record { rules = rules; world = cond (is_idle (sym known-is j).phase) (placed_at (record { words = words; passes = passes }) p (acquired mode (sym known-is j))) (record { words = words; passes = passes }) })))

  pub release-told : (m : Lock) (q : PassState) → lock rules words passes ≡ m → q ≡ released own → lock rules words (set passes p q) ≡ moved m (Release p)
  release-told m q is e = subst (λ (z : Lock). lock rules words (set passes p q) ≡ moved z (Release p)) is
      ((λ j. lock rules words (set passes p (e j))) ∙ ((λ j. record { rules = rules; world = maybe (is_resting own) (record own { phase = exit own.reg.mode }) j })
      ∙ (λ j. record { rules = rules; world = cond (is_resting (sym known-is j)) (placed_at (record { words = words; passes = passes }) p (released (sym known-is j))) (record { words = words; passes = passes }) })))

  -- the pass moves, in the lock that is told again
  pub moves : (m : Lock) → lock rules words passes ≡ m → moving own ≡ true → moving (known m.world.passes p) ≡ true
  moves m is go = subst (λ (z : Lock). moving (known z.world.passes p) ≡ true) is (ap moving known-is ∙ go)

  pub rest-told : (m : Lock) (choice : Bool) → lock rules words passes ≡ m → moving own ≡ false → m ≡ moved m (Step p choice)
  rest-told m choice is go = subst (λ (z : Lock). z ≡ moved z (Step p choice)) is
      (λ j. record { rules = rules; world = cond (sym (ap moving known-is ∙ go) j) (stepped rules (record { words = words; passes = passes }) p (known passes p) choice) (record { words = words; passes = passes }) })

  pub step-told : (m : Lock) (choice : Bool) (words' : List ℕ) (q : PassState) → lock rules words passes ≡ m → moving own ≡ true → words' ≡ written words (plan rules p own) → q ≡ take rules p own (look words (site (plan rules p own))) choice
      → lock rules words' (set passes p q) ≡ moved m (Step p choice)
  step-told m choice words' q is go e f = subst (λ (z : Lock). lock rules words' (set passes p q) ≡ moved z (Step p choice)) is
      ((λ j. lock rules (e j) (set passes p (f j))) ∙ ((λ j. record { rules = rules; world = stepped rules (record { words = words; passes = passes }) p (sym known-is j) choice })
      ∙ (λ j. record { rules = rules; world = cond (sym (ap moving known-is ∙ go) j) (stepped rules (record { words = words; passes = passes }) p (known passes p) choice) (record { words = words; passes = passes }) })))

-- a move that is admitted is the row
pub makes-row : (a b : Lock) (p : ℕ) (choice : Bool) → moving (known a.world.passes p) ≡ true → b ≡ moved a (Step p choice) → MakesRow a p choice b
makes-row a b p choice go e = subst (λ (z : Lock). MakesRow a p choice z) (sym e)
    (subst (λ (b : Bool). MakesRow a p choice (record a { world = cond b (stepped a.rules a.world p (known a.world.passes p) choice) a.world })) (sym go) (record { rules = refl; words = refl; passes = refl }))
