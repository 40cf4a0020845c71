-- A pass that has entered is still seen as idle, and one that leaves as a holder; one that is idle is seen as it stands.
use Rattle.std.proofs.Common.{◌≡◌, ◌<◌, Bool, true, false, cond, List, length, refl, sym, ap, ◌∙◌, subst}
use mathlib.Core.Option.{some}
use Rattle.shfl_line.specs.declared.events.Form.{Form}
use Rattle.shfl_line.specs.declared.events.Mode.{Mode}
use Rattle.shfl_line.specs.declared.events.Mode.TheVariants.{Write, Read}
use Rattle.shfl_line.specs.declared.events.LineEvent.TheVariants.{Nothing}
use Rattle.shfl_core.specs.declared.phase.Phase.TheVariants.{Idle}
use Rattle.shfl_core.specs.declared.phase.PassState.{PassState}
use Rattle.shfl_core.specs.Plan.{is_idle, is_resting}
use Rattle.shfl_core.specs.Take.{entry, exit, acquired, released}
use Rattle.shfl_core.specs.Waiting.{MayUse, idle}
use Rattle.shfl_core.specs.Worlds.{known, placed_at}
use Rattle.shfl_core.specs.Lawful.{Terms, Advances}
use Rattle.shfl_core.proofs.Lists.{seen-at, set-again}
use Rattle.shfl_laws.specs.Seen.{SeenAs, Alike, Enters, Leaves, SeenLaw, MovesUnseen, IdleAlike}
use Rattle.shfl_laws.proofs.laws.MoveRows.{acquire-advances, release-advances}
use Rattle.shfl_laws.proofs.laws.MoveLaws.{idle-is, resting-is}

pub seen-law : (t : Terms) → SeenLaw t
seen-law t w p own seen ok at seen_as = by seen_as
  where
    e : (known w.passes p ≡ seen) × (p < length w.passes)
    e = seen-at w.passes p seen (idle p) at

    by : SeenAs t.rules.form own seen → Advances t w ok Nothing (placed_at w p own)
    by (Alike same) = subst (λ (l : List PassState). Advances t w ok Nothing (record { words = w.words; passes = l })) (sym (set-again w.passes p own (at ∙ ap some (sym same)))) (record { lawful = ok; admitted = tt; shown = refl })
    by (Enters m may f same) = subst (λ (z : PassState). Advances t w ok Nothing (placed_at w p z)) (ap (λ (z : PassState). record z { phase = entry m; reg = record z.reg { mode = m } }) e.0 ∙ sym same)
        (acquire-advances t w ok p e.1 m may (ap (λ (z : PassState). z.phase) e.0 ∙ f))
    by (Leaves rest same) = let r = resting-is seen rest in subst (λ (z : PassState). Advances t w ok Nothing (placed_at w p z)) (ap (λ (z : PassState). record z { phase = exit z.reg.mode }) e.0 ∙ sym same)
        (release-advances t w ok p e.1 (ap (λ (z : PassState). z.phase) e.0 ∙ r.0) (ap (λ (z : PassState). z.nap) e.0 ∙ r.1))

module _ (form : Form) (seen : PassState) where
  acquired-alike : (m : Mode) → MayUse form m → (b : Bool) → is_idle seen.phase ≡ b → SeenAs form (cond b (record seen { phase = entry m; reg = record seen.reg { mode = m } }) seen) seen
  acquired-alike m may true e = Enters m may (idle-is seen.phase e) refl
  acquired-alike m may false e = Alike refl

  released-alike : (b : Bool) → is_resting seen ≡ b → SeenAs form (cond b (record seen { phase = exit seen.reg.mode }) seen) seen
  released-alike true e = Leaves e refl
  released-alike false e = Alike refl

  abbrev entered : Mode → PassState
  entered n = record seen { phase = entry n; reg = record seen.reg { mode = n } }

  entered-acquired : (m n : Mode) → MayUse form n → seen.phase ≡ Idle → SeenAs form (acquired m (entered n)) seen
  entered-acquired m Write may f = Enters Write may f refl
  entered-acquired m Read may f = Enters Read may f refl

  entered-released : (n : Mode) → MayUse form n → seen.phase ≡ Idle → SeenAs form (released (entered n)) seen
  entered-released Write may f = Enters Write may f refl
  entered-released Read may f = Enters Read may f refl

  leaving-acquired : (m n : Mode) → is_resting seen ≡ true → seen.reg.mode ≡ n → SeenAs form (acquired m (record seen { phase = exit n })) seen
  leaving-acquired m Write r e = Leaves r (ap (λ x. record seen { phase = exit x }) (sym e))
  leaving-acquired m Read r e = Leaves r (ap (λ x. record seen { phase = exit x }) (sym e))

  leaving-released : (n : Mode) → is_resting seen ≡ true → seen.reg.mode ≡ n → SeenAs form (released (record seen { phase = exit n })) seen
  leaving-released Write r e = Leaves r (ap (λ x. record seen { phase = exit x }) (sym e))
  leaving-released Read r e = Leaves r (ap (λ x. record seen { phase = exit x }) (sym e))

  acquire-unseen : (m : Mode) (own : PassState) → MayUse form m → SeenAs form own seen → SeenAs form (acquired m own) seen
  acquire-unseen m own may (Alike same) = subst (λ (z : PassState). SeenAs form (acquired m z) seen) (sym same) (acquired-alike m may (is_idle seen.phase) refl)
  acquire-unseen m own may (Enters n may_use f same) = subst (λ (z : PassState). SeenAs form (acquired m z) seen) (sym same) (entered-acquired m n may_use f)
  acquire-unseen m own may (Leaves r same) = subst (λ (z : PassState). SeenAs form (acquired m z) seen) (sym same) (leaving-acquired m seen.reg.mode r refl)

  release-unseen : (own : PassState) → SeenAs form own seen → SeenAs form (released own) seen
  release-unseen own (Alike same) = subst (λ (z : PassState). SeenAs form (released z) seen) (sym same) (released-alike (is_resting seen) refl)
  release-unseen own (Enters n may_use f same) = subst (λ (z : PassState). SeenAs form (released z) seen) (sym same) (entered-released n may_use f)
  release-unseen own (Leaves r same) = subst (λ (z : PassState). SeenAs form (released z) seen) (sym same) (leaving-released seen.reg.mode r refl)

pub moves-unseen : (form : Form) → MovesUnseen form
moves-unseen form = record { acquire = λ m own seen may seen_as. acquire-unseen form seen m own may seen_as; release = λ own seen seen_as. release-unseen form seen own seen_as }

pub idle-alike : (form : Form) → IdleAlike form
idle-alike form own seen (Alike e) rests = e
idle-alike form own seen (Enters m may f e) rests = absurd (let z : is_idle own.phase ≡ false = ap (λ (q : PassState). is_idle q.phase) e ∙ out m in let x : true ≡ false = sym rests ∙ z in cc)
  where
    out : (m : Mode) → is_idle (entry m) ≡ false
    out Write = refl
    out Read = refl
idle-alike form own seen (Leaves r e) rests = absurd (let z : is_idle own.phase ≡ false = ap (λ (q : PassState). is_idle q.phase) e ∙ out seen.reg.mode in let x : true ≡ false = sym rests ∙ z in cc)
  where
    out : (m : Mode) → is_idle (exit m) ≡ false
    out Write = refl
    out Read = refl
