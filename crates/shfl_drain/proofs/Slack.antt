-- How long it is until a pass goes on to a later stage, at most, where nobody else does.
use Rattle.std.proofs.Common.{◌≡◌, ℕ, ◌+◌, ◌*◌, ◌≤◌, ◌<◌, Bool, true, false, cond, ◌==◌, refl, ap, arith}
use Rattle.std.specs.Prelude.{◌||◌}
use Rattle.shfl_line.specs.Line.{Line}
use Rattle.shfl_line.specs.Words.{held_of}
use Rattle.shfl_core.specs.declared.phase.Phase.{Phase}
use Rattle.shfl_core.specs.declared.phase.Phase.TheVariants as phase
use Rattle.shfl_core.specs.declared.phase.Registers.{Registers as Regs}
use Rattle.shfl_core.specs.declared.phase.Nap.{Nap}
use Rattle.shfl_core.specs.declared.phase.Nap.TheVariants.{Awake, Doze, Hear, Rouse, Ring}
use Rattle.shfl_core.specs.declared.phase.PassState.{PassState}
use Rattle.shfl_core.specs.Phases.{is_round, is_fore}
use Rattle.shfl_laws.specs.RoundMeasure.{phase_measure, round_measure}

-- the steps of parking, or the wakeup that the pass owes
abbrev pub nap_left : Nap → ℕ
nap_left Awake = 0
nap_left (Ring whom) = 1
nap_left Rouse = 1
nap_left Hear = 2
nap_left Doze = 3

-- the queue's head, among n passes: a round that begins, what is left of one, and whether its compare will fail
abbrev pub pace_at : ℕ → ℕ → ℕ → ℕ → Phase → ℕ
pace_at n lock saw left phase.Begin = 9 * n + 14
pace_at n lock saw left phase.Peek = 2
pace_at n lock saw left phase.Grab = cond (held_of lock) (9 * n + 15) 1
pace_at n lock saw left phase.WriteGrab = cond (lock == saw) 1 (9 * n + 15)
pace_at n lock saw left f = cond (is_round f) (3 + left) 0

-- a waiter without a batch number may still park
abbrev pub drowsy : ℕ → Nap → Phase → ℕ
drowsy mark Awake phase.Look = cond (mark == 0) 4 0
drowsy mark _ _ = 0

-- of the pass that stands at q, by whether its state word calls it, the lock word, its batch number and what is left of its round
abbrev pub slack : ℕ → PassState → Bool → ℕ → ℕ → ℕ → ℕ
slack n q ready lock mark left = nap_left q.nap + cond (is_fore q || ready) (pace_at n lock q.reg.saw left q.phase) (drowsy mark q.nap q.phase)

-- what is left of a round counts only in a round
pub slack-left : (n : ℕ) (q : PassState) (ready : Bool) (lock mark a b : ℕ) → is_round q.phase ≡ false → slack n q ready lock mark a ≡ slack n q ready lock mark b
slack-left n q ready lock mark a b e = by (is_fore q || ready)
  where
    same : (f : Phase) → is_round f ≡ false → pace_at n lock q.reg.saw a f ≡ pace_at n lock q.reg.saw b f
    same phase.Next e = absurd (cc)
    same phase.Tail e = absurd (cc)
    same phase.Attr e = absurd (cc)
    same phase.Decide e = absurd (cc)
    same phase.After e = absurd (cc)
    same phase.Pick e = absurd (cc)
    same phase.Aim e = absurd (cc)
    same phase.Place e = absurd (cc)
    same phase.Mark e = absurd (cc)
    same phase.Give e = absurd (cc)
    same _ e = refl

    by : (h : Bool) → nap_left q.nap + cond h (pace_at n lock q.reg.saw a q.phase) (drowsy mark q.nap q.phase) ≡ nap_left q.nap + cond h (pace_at n lock q.reg.saw b q.phase) (drowsy mark q.nap q.phase)
    by true = ap (λ z. nap_left q.nap + z) (same q.phase e)
    by false = refl

pub nap-most : (x : Nap) → nap_left x ≤ 3
nap-most Awake = omega arith
nap-most (Ring whom) = omega arith
nap-most Rouse = omega arith
nap-most Hear = omega arith
nap-most Doze = omega arith

drowsy-most : (mark : ℕ) (x : Nap) (f : Phase) → drowsy mark x f ≤ 4
drowsy-most mark Awake phase.Look = by (mark == 0)
  where
    by : (b : Bool) → cond b 4 0 ≤ 4
    by true = omega arith
    by false = omega arith
drowsy-most mark Awake _ = omega arith
drowsy-most mark _ f = omega arith

two-most : (b : Bool) (x y k : ℕ) → x ≤ k → y ≤ k → cond b x y ≤ k
two-most true x y k h i = h
two-most false x y k h i = i

pace-most : (n lock saw left : ℕ) (f : Phase) → left ≤ 9 * n + 10 → pace_at n lock saw left f ≤ 9 * n + 15
pace-most n lock saw left phase.Begin h = omega arith
pace-most n lock saw left phase.Peek h = omega arith
pace-most n lock saw left phase.Grab h = two-most (held_of lock) (9 * n + 15) 1 (9 * n + 15) (omega arith) (omega arith)
pace-most n lock saw left phase.WriteGrab h = two-most (lock == saw) 1 (9 * n + 15) (9 * n + 15) (omega arith) (omega arith)
pace-most n lock saw left f h = two-most (is_round f) (3 + left) 0 (9 * n + 15) (omega arith) (omega arith)

pub slack-most : (n : ℕ) (q : PassState) (ready : Bool) (lock mark left : ℕ) → left ≤ 9 * n + 10 → slack n q ready lock mark left ≤ 9 * n + 18
slack-most n q ready lock mark left h = let a = nap-most q.nap in
    let b = two-most (is_fore q || ready) (pace_at n lock q.reg.saw left q.phase) (drowsy mark q.nap q.phase) (9 * n + 15) (pace-most n lock q.reg.saw left q.phase h) (let c = drowsy-most mark q.nap q.phase in omega arith) in omega arith

-- so much is left of a round at most
pub phase-most : (r : Regs) (f : Phase) → phase_measure r f ≤ 10
phase-most r phase.Mark = two-most (r.prev == r.last) 3 8 10 (omega arith) (omega arith)
phase-most r _ = omega arith

pub left-most : (n : ℕ) (s : Line) (p : ℕ) (q : PassState) → round_measure n s p q ≤ 9 * n + 10
left-most n s p q = let a = phase-most q.reg q.phase in omega arith

-- and some is left in each round
pub left-some : (n : ℕ) (s : Line) (p : ℕ) (q : PassState) → is_round q.phase ≡ true → 0 < round_measure n s p q
left-some n s p q e = let a = positive q.reg q.phase e in omega arith
  where
    two : (b : Bool) → 0 < cond b 3 8
    two true = omega arith
    two false = omega arith

    positive : (r : Regs) (f : Phase) → is_round f ≡ true → 0 < phase_measure r f
    positive r phase.Mark e = two (r.prev == r.last)
    positive r phase.Next e = omega arith
    positive r phase.Tail e = omega arith
    positive r phase.Attr e = omega arith
    positive r phase.Decide e = omega arith
    positive r phase.After e = omega arith
    positive r phase.Pick e = omega arith
    positive r phase.Aim e = omega arith
    positive r phase.Place e = omega arith
    positive r phase.Give e = omega arith
    positive r _ e = absurd (cc)
