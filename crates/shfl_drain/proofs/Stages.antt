-- How far a pass still has to go, by its phase: what its own steps lower.
use Rattle.std.proofs.Common.{◌≡◌, ℕ, zero, suc, ◌+◌, ◌≤◌, Bool, true, false, cond, ◌==◌, refl, arith}
use Rattle.std.specs.Prelude.{◌||◌}
use Rattle.shfl_line.specs.declared.events.Mode.{Mode}
use Rattle.shfl_line.specs.declared.events.Mode.TheVariants.{Write, Read}
use Rattle.shfl_line.specs.Words.{held_of, closed_of}
use Rattle.shfl_core.specs.declared.phase.Phase.{Phase}
use Rattle.shfl_core.specs.declared.phase.Phase.TheVariants as phase
use Rattle.shfl_core.specs.declared.phase.Registers.{Registers as Regs}
use Rattle.shfl_core.specs.declared.phase.PassState.{PassState}
use Rattle.shfl_core.specs.declared.phase.Rules.{Rules}
use Rattle.shfl_core.specs.Take.{take_at, to, seek, top}

-- the stages from an acquire to idle, by twos; a waiter that shuffles is at the stage of a waiter, the head at the head's
abbrev pub stage_at : Bool → Phase → ℕ
stage_at headed phase.Idle = 0
stage_at headed phase.Release = 2
stage_at headed phase.ReadRelease = 2
stage_at headed phase.TryUncount = 2
stage_at headed phase.Held = 4
stage_at headed phase.Ready = 6
stage_at headed phase.Open = 6
stage_at headed phase.Late = 8
stage_at headed phase.Cut = 10
stage_at headed phase.Take = 12
stage_at headed phase.HeadLook = 14
stage_at headed phase.HeadCount = 16
stage_at headed phase.Peek = 18
stage_at headed phase.Grab = 18
stage_at headed phase.WriteGrab = 18
stage_at headed phase.Look = 20
stage_at headed phase.Close = 20
stage_at headed phase.Link = 22
stage_at headed phase.Swap = 24
stage_at headed phase.Init = 26
stage_at headed phase.Uncount = 28
stage_at headed phase.Steal = 30
stage_at headed phase.Count = 32
stage_at headed _ = cond headed 18 20

abbrev pub stage : PassState → ℕ
stage q = stage_at q.reg.headed q.phase

pub stage-most : (b : Bool) (f : Phase) → stage_at b f ≤ 32
stage-most true f = grind arith
stage-most false f = grind arith

-- only an idle pass is at the last stage
pub stage-none : (b : Bool) (f : Phase) → stage_at b f ≡ 0 → f ≡ phase.Idle
stage-none b phase.Idle e = refl
stage-none true _ e = absurd (omega arith)
stage-none false _ e = absurd (omega arith)

pick : (k : ℕ) (b : Bool) (x y : PassState) → stage x ≤ k → stage y ≤ k → stage (cond b x y) ≤ k
pick k true x y h i = h
pick k false x y h i = i

pub seek-stage : (h : Bool) (m : Mode) → stage_at h (seek m) ≤ 18
seek-stage h Write = omega arith
seek-stage h Read = omega arith

pub top-stage : (r : Regs) → stage (top r) ≤ 18
top-stage r = pick 18 ((r.batch == 0) || r.flag) (to phase.Begin (record r { headed = true })) (to (seek r.mode) r) (omega arith) (seek-stage r.headed r.mode)

-- the phases whose every step leads to a later stage
abbrev pub always : Phase → Bool
always phase.Steal = true
always phase.Init = true
always phase.Swap = true
always phase.Link = true
always phase.Close = true
always phase.Take = true
always phase.Cut = true
always phase.Ready = true
always phase.Open = true
always phase.Release = true
always phase.Count = true
always phase.Uncount = true
always phase.TryUncount = true
always phase.HeadCount = true
always phase.ReadRelease = true
always _ = false

choose : (h b : Bool) (f g : Phase) (k : ℕ) → stage_at h f ≤ k → stage_at h g ≤ k → stage_at h (cond b f g) ≤ k
choose h true f g k x y = x
choose h false f g k x y = y

pub always-falls : (t : Rules) (p : ℕ) (r : Regs) (n : ℕ) (c : Bool) (f : Phase) → always f ≡ true → stage (take_at t p r n c f) + 2 ≤ stage_at r.headed f
always-falls t p r n c phase.Steal e = let a = choose r.headed (n == 0) phase.Held phase.Init 28 (omega arith) (omega arith) in omega arith
always-falls t p r n c phase.Init e = omega arith
always-falls t p r zero c phase.Swap e = omega arith
always-falls t p r (suc n) c phase.Swap e = omega arith
always-falls t p r n c phase.Link e = omega arith
always-falls t p r n c phase.Close e = let a = top-stage r in omega arith
always-falls t p r zero c phase.Take e = omega arith
always-falls t p r (suc n) c phase.Take e = omega arith
always-falls t p r n c phase.Cut e = let a = choose r.headed (n == p + 1) phase.Open phase.Late 8 (omega arith) (omega arith) in omega arith
always-falls t p r n c phase.Ready e = omega arith
always-falls t p r n c phase.Open e = omega arith
always-falls t p r n c phase.Release e = omega arith
always-falls t p r n c phase.Count e = let a = choose r.headed (held_of n || closed_of n) phase.Uncount phase.Held 30 (omega arith) (omega arith) in omega arith
always-falls t p r n c phase.Uncount e = omega arith
always-falls t p r n c phase.TryUncount e = omega arith
always-falls t p r n c phase.HeadCount e = let a = choose r.headed (held_of n) phase.HeadLook phase.Take 14 (omega arith) (omega arith) in omega arith
always-falls t p r n c phase.ReadRelease e = omega arith
always-falls t p r n c _ e = absurd (cc)
