-- An attempt takes the lock just where the first step of a call would.
use Rattle.std.proofs.Common.{◌≡◌, ℕ, ◌<◌, ◌==◌, ◌||◌, Bool, true, false, cond, List, length, refl, sym, ap, subst, ◌∙◌, length-set, true≢false}
use Rattle.shfl_line.specs.Words.{held_of, closed_of}
use Rattle.shfl_line.specs.declared.events.Mode.{Mode}
use Rattle.shfl_line.specs.declared.events.Mode.TheVariants.{Write, Read}
use Rattle.shfl_core.specs.declared.phase.Nap.{Nap}
use Rattle.shfl_core.specs.declared.phase.Nap.TheVariants as naps
use Rattle.shfl_core.specs.declared.phase.PassState.{PassState}
use Rattle.shfl_core.specs.declared.phase.Phase.TheVariants.{Idle, Held, Init, TryUncount, Uncount}
use Rattle.shfl_core.specs.declared.phase.Registers.{Registers}
use Rattle.shfl_core.specs.declared.phase.Rules.{Rules}
use Rattle.shfl_core.specs.declared.words.Word.TheVariants.{Lock}
use Rattle.shfl_core.specs.Plan.{plan, moving, is_awake, is_resting}
use Rattle.shfl_core.specs.Take.{to, take, entry, acquired, attempted}
use Rattle.shfl_core.specs.Words.{look, site}
use Rattle.shfl_core.specs.Worlds.{World, Acquire, Step, known, placed_at, after_move}
use Rattle.sim_model.specs.Laws.{AttemptsAreFirstSteps}
use Rattle.sim_model.proofs.Settled.{known-same, admitted-step}
use Rattle.sim_model.proofs.Turned.{acquired-moves}

-- where a pass stands that calls
abbrev calling : Mode → Registers → Nap → PassState
calling m r z = record { phase = entry m; reg = record r { mode = m }; nap = z }

-- what it finds at its first step
abbrev finds : Rules → ℕ → List ℕ → PassState → ℕ
finds t p words q = look words (site (plan t p q))

first-step : (t : Rules) (p : ℕ) (words : List ℕ) (r : Registers) (z : Nap) (c : Bool) (m : Mode) → is_awake z ≡ true
    → is_resting (attempted m r (look words Lock)) ≡ is_resting (take t p (calling m r z) (finds t p words (calling m r z)) c)
first-step t p words r naps.Awake c Write e = let n = look words Lock in
    elim (n == 0) as (λ b. is_resting (cond b (to Held (record r { mode = Write })) (to Idle (record r { mode = Write; saw = n }))) ≡ is_resting (to (cond b Held Init) (record r { mode = Write }))) [
      | true ↦ refl
      | false ↦ refl
    ]
first-step t p words r naps.Awake c Read e = let n = look words Lock in
    elim (held_of n || closed_of n) as (λ b. is_resting (cond b (to TryUncount (record r { mode = Read; saw = n })) (to Held (record r { mode = Read }))) ≡ is_resting (to (cond b Uncount Held) (record r { mode = Read }))) [
      | true ↦ refl
      | false ↦ refl
    ]
first-step t p words r naps.Doze c m e = absurd (true≢false (sym e))
first-step t p words r naps.Hear c m e = absurd (true≢false (sym e))
first-step t p words r naps.Rouse c m e = absurd (true≢false (sym e))
first-step t p words r (naps.Ring whom) c m e = absurd (true≢false (sym e))

pub attempts-are-first-steps : AttemptsAreFirstSteps
attempts-are-first-steps t w p m c lt idle awake =
    let q = known w.passes p in
    let f = calling m q.reg q.nap in
    let w1 = after_move t w (Acquire p m) in
    let called : acquired m q ≡ f = ap (λ b. cond b f q) idle in
    let e : w1 ≡ placed_at w p f = ap (λ b. cond b (placed_at w p (acquired m q)) w) idle ∙ ap (placed_at w p) called in
    let long : p < length w1.passes = subst (λ n. p < n) (sym (ap (λ (x : World). length x.passes) e ∙ length-set w.passes p f)) lt in
    let own : known w1.passes p ≡ f = ap (λ (x : World). known x.passes p) e ∙ known-same w.passes p f lt in
    let words : w1.words ≡ w.words = ap (λ (x : World). x.words) e in
    let moves : moving (known w1.passes p) ≡ true = ap moving own ∙ ap moving (sym called) ∙ acquired-moves m q idle in
    let after : known (after_move t w1 (Step p c)).passes p ≡ take t p (known w1.passes p) (finds t p w1.words (known w1.passes p)) c =
    ap (λ (x : World). known x.passes p) (admitted-step t w1 p c moves) ∙ known-same w1.passes p (take t p (known w1.passes p) (finds t p w1.words (known w1.passes p)) c) long in
    first-step t p w.words q.reg q.nap c m awake
    ∙ sym (ap is_resting (after ∙ ap (λ (x : PassState). take t p x (finds t p w1.words x) c) own ∙ ap (λ (l : List ℕ). take t p f (finds t p l f) c) words))
