-- At Init a pass begins to use its node, and at no other phase; and an attribute word is read alone.
use Rattle.std.proofs.Common.{◌≡◌, ◌≢◌, ℕ, ◌==◌, Bool, true, false, cond, refl, sym, ap, subst}
use Rattle.std.specs.Prelude.{◌||◌}
use Rattle.shfl_line.specs.declared.events.LineEvent.{LineEvent}
use Rattle.shfl_line.specs.declared.events.LineEvent.TheVariants.{Nothing}
use Rattle.shfl_line.specs.Words.{held_of, closed_of}
use Rattle.shfl_core.specs.declared.phase.Phase.{Phase}
use Rattle.shfl_core.specs.declared.phase.Phase.TheVariants.{Idle, Steal, Init, Open, Held, Release, Count, Uncount, TryUncount, Ready, ReadRelease, Attr as AttrPhase, Decide}
use Rattle.shfl_core.specs.declared.phase.Registers.{Registers}
use Rattle.shfl_core.specs.declared.phase.Nap.{Nap}
use Rattle.shfl_core.specs.declared.phase.Nap.TheVariants.{Awake, Doze, Hear, Rouse, Ring}
use Rattle.shfl_core.specs.declared.phase.Rules.{Rules}
use Rattle.shfl_core.specs.declared.words.Word.TheVariants.{State, Attr}
use Rattle.shfl_core.specs.Words.{site, put}
use Rattle.shfl_core.specs.Plan.{plan_at, plan_by, is_awake}
use Rattle.shfl_core.specs.Take.{take_at, take_by}
use Rattle.shfl_core.specs.Phases.{rank, queued_rank}
use Rattle.shfl_core.specs.Events.{event_at}
use Rattle.shfl_core.specs.Owed.{fits}
use Rattle.shfl_arena.specs.Nodes.{is_swap, uses_node}
use Rattle.shfl_arena.proofs.ThreadSteps.{steal-leads, count-leads}

-- an attribute word is read alone
attr-load : (t : Rules) (p : ℕ) (r : Registers) (n : ℕ) (f : Phase) (q : ℕ) → site (plan_at t p r f) ≡ Attr q → put (plan_at t p r f) n ≡ n
attr-load t p r n AttrPhase q e = refl
attr-load t p r n Decide q e = refl
attr-load t p r n _ q e = absurd (cc)

pub attr-put : (t : Rules) (p : ℕ) (r : Registers) (n : ℕ) (z : Nap) (f : Phase) (q : ℕ) → site (plan_by t p r z f) ≡ Attr q → put (plan_by t p r z f) n ≡ n
attr-put t p r n Awake f q e = attr-load t p r n f q e
attr-put t p r n Doze f q e = absurd (cc)
attr-put t p r n Hear f q e = absurd (cc)
attr-put t p r n Rouse f q e = absurd (cc)
attr-put t p r n (Ring whom) f q e = absurd (cc)

-- a pass begins to use its node at Init alone
leads-at : (t : Rules) (p : ℕ) (r : Registers) (n : ℕ) (c : Bool) (f : Phase) → (queued_rank (rank f) || is_swap f) ≡ false → f ≢ Init → uses_node (take_at t p r n c f) ≡ false
leads-at t p r n c Idle e i = refl
leads-at t p r n c Steal e i = steal-leads r (n == 0)
leads-at t p r n c Init e i = absurd (i refl)
leads-at t p r n c Open e i = refl
leads-at t p r n c Held e i = refl
leads-at t p r n c Release e i = refl
leads-at t p r n c Count e i = count-leads r (held_of n || closed_of n)
leads-at t p r n c Uncount e i = refl
leads-at t p r n c TryUncount e i = refl
leads-at t p r n c Ready e i = refl
leads-at t p r n c ReadRelease e i = refl
leads-at t p r n c _ e i = absurd (cc)

pub leads-by : (t : Rules) (p : ℕ) (r : Registers) (n : ℕ) (c : Bool) (z : Nap) (f : Phase) → (queued_rank (rank f) || is_swap f) ≡ false → f ≢ Init → uses_node (take_by t p r n c z f) ≡ false
leads-by t p r n c Awake f e i = leads-at t p r n c f e i
leads-by t p r n c Doze f e i = e
leads-by t p r n c Hear f e i = e
leads-by t p r n c Rouse f e i = e
leads-by t p r n c (Ring whom) f e i = e

-- there it clears its own state word, whatever that said
abbrev pub Clears : Rules → ℕ → Registers → Nap × Phase → Type 0
Clears t p r w = (site (plan_by t p r w.0 w.1) ≡ State p) × ((n : ℕ) → put (plan_by t p r w.0 w.1) n ≡ 0) × ((n m : ℕ) (c : Bool) → take_by t p r n c w.0 w.1 ≡ take_by t p r m c w.0 w.1)
    × ((n m : ℕ) → ◌≡◌ {A = LineEvent} (cond (is_awake w.0) (event_at t p r n w.1) Nothing) (cond (is_awake w.0) (event_at t p r m w.1) Nothing)) × ((n : ℕ) (c : Bool) → uses_node (take_by t p r n c w.0 w.1) ≡ true)

pub clears : (t : Rules) (p : ℕ) (r : Registers) (z : Nap) (f : Phase) → z ≡ Awake → f ≡ Init → Clears t p r (z, f)
clears t p r z f e g = subst (Clears t p r) (λ j. (sym e j, sym g j)) (refl, (λ n. refl), (λ n m c. refl), (λ n m. refl), λ n c. refl)

pub init-awake : (z : Nap) → fits z Init ≡ true → z ≡ Awake
init-awake Awake e = refl
init-awake Doze e = absurd (cc)
init-awake Hear e = absurd (cc)
init-awake Rouse e = absurd (cc)
init-awake (Ring whom) e = absurd (cc)

abbrev pub is_init : Phase → Bool
is_init Init = true
is_init _ = false

pub init-is : (f : Phase) → is_init f ≡ true → f ≡ Init
init-is Init e = refl
init-is _ e = absurd (cc)

pub init-not : (f : Phase) → is_init f ≡ false → f ≢ Init
init-not f e i = let x : is_init f ≡ true = ap is_init i in cc
