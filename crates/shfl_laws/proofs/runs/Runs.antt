-- What threads do to a lock goes on with the run that it has made since its opening.
use Rattle.std.proofs.Common.{◌≡◌, ℕ, ◌<◌, List, [], ◌∷◌, ◌++◌, Bool, true, cond, length, refl, ap, ◌∙◌, arith}
use Rattle.std.specs.Prelude.{◌&&◌, nat_lt}
use Rattle.std.proofs.lemmas.Bool.Decides.{nat_tests}
use mathlib.Core.Option.{some}
use lib.ListN.{get_elem?}
use Rattle.shfl_line.specs.declared.events.Form.{Form}
use Rattle.shfl_line.specs.declared.events.Mode.{Mode}
use Rattle.shfl_line.specs.declared.words.Attr.{Attr}
use Rattle.shfl_core.specs.declared.phase.Phase.TheVariants.{Idle}
use Rattle.shfl_core.specs.declared.phase.PassState.{PassState}
use Rattle.shfl_core.specs.declared.phase.Rules.{Rules}
use Rattle.shfl_core.specs.Plan.{is_idle}
use Rattle.shfl_core.specs.Words.{wide}
use Rattle.shfl_core.specs.Waiting.{blank, idle}
use Rattle.shfl_core.specs.Worlds.{World, known, placed_at, tried}
use Rattle.shfl_core.proofs.Lists.{seen-at}
use Rattle.shfl_laws.specs.Moves.{first_seated, with_one_more}
use Rattle.shfl_laws.specs.Changes.{Change, Tries, Disables, Fills, Replaces, is_idle_there, has_seat, after_change, after_changes, EachMayChange}
use Rattle.shfl_laws.specs.Runs.{IsRun, RunsGoOn}
use Rattle.shfl_laws.proofs.runs.OwnChanges.{step-changes-lead}

pub after-both : (t : Rules) (w : World) (xs ys : List Change) → after_changes t w (xs ++ ys) ≡ after_changes t (after_changes t w xs) ys
after-both t w [] ys = refl
after-both t w (x ∷ xs) ys = after-both t (after_change t w x) xs ys

may-both : (form : Form) (xs ys : List Change) → EachMayChange form xs → EachMayChange form ys → EachMayChange form (xs ++ ys)
may-both form [] ys a b = b
may-both form (x ∷ xs) ys a b = (a.0, may-both form xs ys a.1 b)

-- an idle pass is there as it is known
pub there-is : (w : World) (p : ℕ) (q : PassState) → get_elem? w.passes p ≡ some q → q.phase ≡ Idle → (is_idle_there w p ≡ true) × (known w.passes p ≡ q)
there-is w p q at rests = let k = seen-at w.passes p q (idle p) at in
    let phase : is_idle (known w.passes p).phase ≡ true = ap (λ (z : PassState). is_idle z.phase) k.0 ∙ ap is_idle rests in
    let below : nat_lt p (length w.passes) ≡ true = let b = k.1 in grind (arith, nat_tests) in (both (nat_lt p (length w.passes)) (is_idle (known w.passes p).phase) below phase, k.0)
  where
    both : (a b : Bool) → a ≡ true → b ≡ true → (a && b) ≡ true
    both a b e f = λ j. e j && f j

-- a seat that is filled, and an idle pass that is given back
pub fills : (t : Rules) (w : World) → wide (length w.passes) < length w.words → after_changes t w (Fills ∷ []) ≡ with_one_more w
fills t w room = let b : has_seat w ≡ true = grind (arith, nat_tests) in ap (λ z. cond z (with_one_more w) w) b

pub replaces : (t : Rules) (w : World) (p : ℕ) (q : PassState) → get_elem? w.passes p ≡ some q → q.phase ≡ Idle → after_changes t w (Replaces p (blank p) ∷ []) ≡ placed_at w p (idle p)
replaces t w p q at rests = ap (λ b. cond b (placed_at w p (idle p)) w) (there-is w p q at rests).0

pub tries : (t : Rules) (w : World) (p : ℕ) (q : PassState) (mode : Mode) → get_elem? w.passes p ≡ some q → q.phase ≡ Idle → after_changes t w (Tries p mode ∷ []) ≡ tried w p q mode
tries t w p q mode at rests = let e = there-is w p q at rests in
    ap (λ b. cond b (tried w p (known w.passes p) mode) w) e.0 ∙ ap (λ (z : PassState). tried w p z mode) e.1

module _ (rules : Rules) (attrs : List Attr) where
  -- a run goes on by changes that may be made, and lead on
  pub more : (changes added : List Change) (w v : World) → IsRun rules attrs changes w → EachMayChange rules.form added → after_changes rules w added ≡ v → IsRun rules attrs (changes ++ added) v
  more changes added w v r may leads = record {
    may = may-both rules.form changes added r.may may;
    made = after-both rules (first_seated attrs) changes added ∙ (ap (λ (z : World). after_changes rules z added) r.made ∙ leads);
  }

  pub runs-go-on : RunsGoOn rules attrs
  runs-go-on = record {
    opens = record { may = tt; made = refl };
    steps = λ changes w p own seen choice r at as_seen goes. let s = step-changes-lead rules w p own seen at choice goes as_seen in more changes _ w _ r s.0 s.1;
    attempts = λ changes w p q mode r at rests may. more changes (Tries p mode ∷ []) w (tried w p q mode) r (may, tt) (tries rules w p q mode at rests);
    disabling = λ changes w p r. more changes (Disables p ∷ []) w _ r (tt, tt) refl;
    seats = λ changes w r room. more changes (Fills ∷ []) w (with_one_more w) r (tt, tt) (fills rules w room);
    returns = λ changes w p q r at rests. more changes (Replaces p (blank p) ∷ []) w (placed_at w p (idle p)) r (tt, tt) (replaces rules w p q at rests);
  }
