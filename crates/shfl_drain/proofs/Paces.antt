-- How long a pass waits at each place to which a step within a stage leads.
use Rattle.std.proofs.Common.{◌≡◌, ℕ, ◌+◌, ◌*◌, ◌<◌, ◌≤◌, Bool, true, false, cond, ◌==◌, refl, ◌∙◌, arith}
use Rattle.std.specs.Prelude.{◌||◌, nat_lt}
use Rattle.std.proofs.lemmas.Bool.Decides.{nat_tests}
use Rattle.shfl_line.specs.declared.events.Mode.{Mode}
use Rattle.shfl_line.specs.declared.events.Mode.TheVariants.{Write, Read}
use Rattle.shfl_core.specs.declared.phase.Phase.{Phase}
use Rattle.shfl_core.specs.declared.phase.Phase.TheVariants as phase
use Rattle.shfl_core.specs.declared.phase.Registers.{Registers as Regs}
use Rattle.shfl_core.specs.declared.phase.Nap.TheVariants.{Awake}
use Rattle.shfl_core.specs.declared.phase.PassState.{PassState}
use Rattle.shfl_core.specs.declared.phase.Rules.{Rules}
use Rattle.shfl_core.specs.Phases.{is_round, is_queued, is_fore, rank, fore_rank, queued_rank}
use Rattle.shfl_core.specs.Take.{to, done, seek, top, begun}
use Rattle.shfl_drain.proofs.Stages.{stage, stage_at, seek-stage}
use Rattle.shfl_drain.proofs.Slack.{slack, nap_left, pace_at, drowsy}
use Rattle.shfl_drain.proofs.Number.{unmarked}

-- in a round the head waits for its end, and a waiter for its call
pub slack-round : (n : ℕ) (q : PassState) (ready : Bool) (lock mark left : ℕ) → is_round q.phase ≡ true → q.nap ≡ Awake → slack n q ready lock mark left ≡ cond (q.reg.headed || ready) (3 + left) 0
slack-round n q ready lock mark left e a = (λ j. nap_left (a j) + cond (is_fore q || ready) (pace_at n lock q.reg.saw left q.phase) (drowsy mark (a j) q.phase)) ∙ by q.phase e
  where
    plain : (b : Bool) → 0 + cond b (3 + left) 0 ≡ cond b (3 + left) 0
    plain true = omega arith
    plain false = omega arith

    by : (f : Phase) → is_round f ≡ true → nap_left Awake + cond (fore_rank (rank f) q.reg.headed || ready) (pace_at n lock q.reg.saw left f) (drowsy mark Awake f) ≡ cond (q.reg.headed || ready) (3 + left) 0
    by phase.Next i = plain (q.reg.headed || ready)
    by phase.Tail i = plain (q.reg.headed || ready)
    by phase.Attr i = plain (q.reg.headed || ready)
    by phase.Decide i = plain (q.reg.headed || ready)
    by phase.After i = plain (q.reg.headed || ready)
    by phase.Pick i = plain (q.reg.headed || ready)
    by phase.Aim i = plain (q.reg.headed || ready)
    by phase.Place i = plain (q.reg.headed || ready)
    by phase.Mark i = plain (q.reg.headed || ready)
    by phase.Give i = plain (q.reg.headed || ready)
    by _ i = absurd (cc)

pub stage-round : (h : Bool) (f : Phase) → is_round f ≡ true → stage_at h f ≡ cond h 18 20
stage-round h phase.Next e = refl
stage-round h phase.Tail e = refl
stage-round h phase.Attr e = refl
stage-round h phase.Decide e = refl
stage-round h phase.After e = refl
stage-round h phase.Pick e = refl
stage-round h phase.Aim e = refl
stage-round h phase.Place e = refl
stage-round h phase.Mark e = refl
stage-round h phase.Give e = refl
stage-round h _ e = absurd (cc)

pub queued-round : (f : Phase) → is_round f ≡ true → queued_rank (rank f) ≡ true
queued-round f e = grind arith

-- where the pass has its batch number, none is left to get
pub unmarked-none : (q : PassState) (m : ℕ) → 0 < m → unmarked q m ≡ 0
unmarked-none q m h = by (is_queued q) (m == 0) (grind (arith, nat_tests))
  where
    by : (a b : Bool) → b ≡ false → ◌≡◌ {A = ℕ} (cond a (cond b 1 0) 0) 0
    by true true e = absurd (cc)
    by true false e = refl
    by false b e = refl

pub unmarked-any : (v q : PassState) (m : ℕ) → is_queued q ≡ true → unmarked v m ≤ unmarked q m
unmarked-any v q m e = by (is_queued v) (is_queued q) (m == 0) e
  where
    by : (a b c : Bool) → b ≡ true → cond a (cond c 1 0) 0 ≤ cond b (cond c 1 0) 0
    by true true true e = omega arith
    by true true false e = omega arith
    by false true c e = omega arith
    by a false c e = absurd (cc)

-- where a round has ended
pub done-slack : (n : ℕ) (r s : Regs) (ready : Bool) (lock mark left : ℕ) → s.headed ≡ r.headed → 0 < mark → slack n (to (done r) s) ready lock mark left ≤ cond (r.headed || ready) 2 0
done-slack n r s ready lock mark left e h = by r.headed r.mode ready (mark == 0) (grind (arith, nat_tests))
  where
    two : (b : Bool) → 0 + cond (true || b) 2 0 ≤ 2
    two b = omega arith

    by : (a : Bool) (m : Mode) (b d : Bool) → d ≡ false
        → 0 + cond (fore_rank (rank (cond a (seek m) phase.Look)) s.headed || b) (pace_at n lock s.saw left (cond a (seek m) phase.Look)) (drowsy mark Awake (cond a (seek m) phase.Look)) ≤ cond (a || b) 2 0
    by true Write b d i = omega arith
    by true Read b d i = omega arith
    by false m true d i = omega arith
    by false m false d i = let k : ◌≡◌ {A = ℕ} (cond (mark == 0) 4 0) 0 = grind (arith, nat_tests, h) in omega arith

pub done-stage : (r s : Regs) → stage (to (done r) s) ≤ cond r.headed 18 20
done-stage r s = by r.headed r.mode
  where
    by : (a : Bool) (m : Mode) → stage_at s.headed (cond a (seek m) phase.Look) ≤ cond a 18 20
    by true m = seek-stage s.headed m
    by false m = omega arith

more : (b : Bool) (x y : ℕ) → x ≤ y → cond b x 0 ≤ cond b y 0
more true x y h = h
more false x y h = omega arith

-- where a round has begun, or didn't
pub begun-slack : (n : ℕ) (t : Rules) (p : ℕ) (r : Regs) (skip ready : Bool) (lock mark left : ℕ) → 0 < mark → left ≤ 9 * n + 10 → slack n (begun t p r skip) ready lock mark left ≤ cond (r.headed || ready) (9 * n + 13) 0
begun-slack n t p r skip ready lock mark left h k = by (nat_lt r.batch t.limit) skip
  where
    by : (b c : Bool) → slack n (cond b (to (cond c phase.Give phase.Next) (record r { prev = p; last = p; count = r.batch })) (to (done r) r)) ready lock mark left ≤ cond (r.headed || ready) (9 * n + 13) 0
    by true true = let a = slack-round n (to phase.Give (record r { prev = p; last = p; count = r.batch })) ready lock mark left refl refl in let b = more (r.headed || ready) (3 + left) (9 * n + 13) (omega arith) in omega arith
    by true false = let a = slack-round n (to phase.Next (record r { prev = p; last = p; count = r.batch })) ready lock mark left refl refl in let b = more (r.headed || ready) (3 + left) (9 * n + 13) (omega arith) in omega arith
    by false c = let a = done-slack n r r ready lock mark left refl h in let b = more (r.headed || ready) 2 (9 * n + 13) (omega arith) in omega arith

pub begun-stage : (t : Rules) (p : ℕ) (r : Regs) (skip : Bool) → stage (begun t p r skip) ≤ cond r.headed 18 20
begun-stage t p r skip = by (nat_lt r.batch t.limit) skip
  where
    by : (b c : Bool) → stage (cond b (to (cond c phase.Give phase.Next) (record r { prev = p; last = p; count = r.batch })) (to (done r) r)) ≤ cond r.headed 18 20
    by true true = omega arith
    by true false = omega arith
    by false c = done-stage r r

-- where the head begins again
pub top-slack : (n : ℕ) (r : Regs) (ready : Bool) (lock mark left : ℕ) → slack n (top r) ready lock mark left ≤ 9 * n + 14
top-slack n r ready lock mark left = by ((r.batch == 0) || r.flag) r.mode
  where
    by : (b : Bool) (m : Mode) → slack n (cond b (to phase.Begin (record r { headed = true })) (to (seek m) r)) ready lock mark left ≤ 9 * n + 14
    by true m = omega arith
    by false Write = omega arith
    by false Read = omega arith
