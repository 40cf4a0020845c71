-- What is left until a lock has drained: how far its passes still have to go, and how long until one of them goes on.
use Rattle.std.proofs.Common.{◌≡◌, ◌≢◌, ℕ, zero, suc, ◌+◌, ◌*◌, ◌<◌, ◌≤◌, Bool, true, false, cond, ◌==◌, refl, sym, ap, ◌∙◌, subst, ⊎_elim, arith}
use Rattle.std.specs.Prelude.{◌||◌}
use Rattle.std.proofs.lemmas.Nat.{mul-le}
use Rattle.std.proofs.lemmas.Bool.Decides.{nat_tests}
use Rattle.shfl_line.specs.Line.{mark_of}
use Rattle.shfl_line.specs.Words.{ready_of}
use Rattle.shfl_line.proofs.Chain
use Rattle.shfl_core.specs.declared.phase.Phase.TheVariants as phase
use Rattle.shfl_core.specs.declared.phase.Nap.{Nap}
use Rattle.shfl_core.specs.declared.phase.Nap.TheVariants.{Awake, Doze, Hear, Rouse, Ring}
use Rattle.shfl_core.specs.declared.phase.PassState.{PassState}
use Rattle.shfl_core.specs.declared.words.Word.TheVariants.{Lock, State}
use Rattle.shfl_core.specs.Words.{look}
use Rattle.shfl_core.specs.Phases.{is_round, is_queued, is_fore, queued_rank, rank}
use Rattle.shfl_core.specs.Owed.{fits}
use Rattle.shfl_core.specs.Waiting.{idle}
use Rattle.shfl_core.specs.Worlds.{World, known}
use Rattle.shfl_core.specs.Holding.{total}
use Rattle.shfl_core.specs.Lawful.{Terms, count, Lawful}
use Rattle.shfl_core.proofs.Lists.{past, below-or}
use Rattle.shfl_laws.specs.Rounds.{left}
use Rattle.shfl_drain.specs.GoingOn.{IsAtRest}
use Rattle.shfl_drain.specs.Drain.{most_left}
use Rattle.shfl_drain.proofs.Bools.{true-or, total-none}
use Rattle.shfl_drain.proofs.Sums.{total-le, total-lt, total-most, total-part, less, no-more, second-less}
use Rattle.shfl_drain.proofs.Stages.{stage, stage_at, stage-most, stage-none}
use Rattle.shfl_drain.proofs.Slack.{slack, nap_left, pace_at, drowsy, slack-left, slack-most, left-most}

-- a queued pass still has to get its batch number
abbrev pub unmarked : PassState → ℕ → ℕ
unmarked q mark = cond (is_queued q) (cond (mark == 0) 1 0) 0

-- how far the pass z still has to go
abbrev pub way : (t : Terms) (w : World) → Lawful t w → ℕ → ℕ
way t w ok z = stage (known w.passes z) + unmarked (known w.passes z) (mark_of ok.shown z)

-- how long it is until it goes on, at most
abbrev pub wait : (t : Terms) (w : World) → Lawful t w → ℕ → ℕ
wait t w ok z = slack (count t) (known w.passes z) (ready_of (look w.words (State z))) (look w.words Lock) (mark_of ok.shown z) (left t w ok z)

abbrev pub most_wait : ℕ → ℕ
most_wait n = n * (9 * n + 18)

abbrev pub number : (t : Terms) (w : World) → Lawful t w → ℕ
number t w ok = total (count t) (way t w ok) * (most_wait (count t) + 1) + total (count t) (wait t w ok)

unmarked-most : (q : PassState) (m : ℕ) → unmarked q m ≤ 1
unmarked-most q m = by (is_queued q) (m == 0)
  where
    by : (a b : Bool) → cond a (cond b 1 0) 0 ≤ 1
    by true true = omega arith
    by true false = omega arith
    by false b = omega arith

-- a batch number that stays, or comes, leaves no more to be given
pub unmarked-le : (q : PassState) (m k : ℕ) → (k ≡ 0 → m ≡ 0) → unmarked q k ≤ unmarked q m
unmarked-le q m k h = by (is_queued q) k refl
  where
    by : (a : Bool) (n : ℕ) → k ≡ n → cond a (cond (k == 0) 1 0) 0 ≤ cond a (cond (m == 0) 1 0) 0
    by false n e = omega arith
    by true zero e = let z = h e in grind (arith, nat_tests)
    by true (suc n) e = grind (arith, nat_tests)

module _ (t : Terms) (w : World) (ok : Lawful t w) where
  pub wait-most : total (count t) (wait t w ok) ≤ most_wait (count t)
  wait-most = total-most (count t) (9 * count t + 18) (wait t w ok)
      (λ z. slack-most (count t) (known w.passes z) (ready_of (look w.words (State z))) (look w.words Lock) (mark_of ok.shown z) (left t w ok z) (left-most (count t) ok.shown z (known w.passes z)))

  pub bounded : number t w ok ≤ most_left (count t)
  bounded = let a = total-most (count t) 33 (way t w ok) (λ z. (let b = stage-most (known w.passes z).reg.headed (known w.passes z).phase in let c = unmarked-most (known w.passes z) (mark_of ok.shown z) in omega arith)) in
      let b = mul-le (total (count t) (way t w ok)) (most_wait (count t) + 1) (count t * 33) (most_wait (count t) + 1) a (omega arith) in
      let c = wait-most in let d : (33 * count t + 1) * (most_wait (count t) + 1) ≡ count t * 33 * (most_wait (count t) + 1) + (most_wait (count t) + 1) = grind arith in omega arith

  idle-slack : (n : ℕ) (q : PassState) (b : Bool) (lock mark r : ℕ) → q.nap ≡ Awake → q.phase ≡ phase.Idle → slack n q b lock mark r ≡ 0
  idle-slack n q b lock mark r e f = (λ j. nap_left (e j) + cond (is_fore q || b) (pace_at n lock q.reg.saw r (f j)) (drowsy mark (e j) (f j))) ∙ by (is_fore q || b)
    where
      by : (c : Bool) → ◌≡◌ {A = ℕ} (0 + cond c 0 0) 0
      by true = omega arith
      by false = omega arith

  idle-way : (q : PassState) (m : ℕ) → q.phase ≡ phase.Idle → stage q + unmarked q m ≡ 0
  idle-way q m e = (λ j. stage_at q.reg.headed (e j) + cond (queued_rank (rank (e j))) (cond (m == 0) 1 0) 0)

  awake-idle : (x : Nap) → fits x phase.Idle ≡ true → x ≡ Awake
  awake-idle Awake e = refl
  awake-idle Doze e = absurd (cc)
  awake-idle Hear e = absurd (cc)
  awake-idle Rouse e = absurd (cc)
  awake-idle (Ring q) e = absurd (cc)

  pub at-rest-none : IsAtRest w → number t w ok ≡ 0
  at-rest-none rest = let a = total-none (count t) (way t w ok) (λ z. idle-way (known w.passes z) (mark_of ok.shown z) (rest z)) in
      let b = total-none (count t) (wait t w ok) (λ z. idle-slack (count t) (known w.passes z) (ready_of (look w.words (State z))) (look w.words Lock) (mark_of ok.shown z) (left t w ok z)
      (awake-idle (known w.passes z).nap (subst (λ f. fits (known w.passes z).nap f ≡ true) (rest z) (ok.agrees.owed.places z))) (rest z)) in
      ap (λ n. n * (most_wait (count t) + 1) + total (count t) (wait t w ok)) a ∙ (omega arith)

  pub drained : number t w ok ≡ 0 → IsAtRest w
  drained e p = ⊎_elim
      (λ h. stage-none (known w.passes p).reg.headed (known w.passes p).phase (let a = none in let b = total-part (count t) p (way t w ok) h in omega arith))
      (λ h. ap (λ (q : PassState). q.phase) (past w.passes p (idle p) (let s = ok.seats in omega arith)))
      (below-or p (count t))
    where
      none : total (count t) (way t w ok) ≡ 0
      none = by (total (count t) (way t w ok)) refl
        where
          by : (n : ℕ) → total (count t) (way t w ok) ≡ n → total (count t) (way t w ok) ≡ 0
          by zero i = i
          by (suc n) i = absurd (let a = mul-le 1 (most_wait (count t) + 1) (total (count t) (way t w ok)) (most_wait (count t) + 1) (omega arith) (omega arith) in omega arith)

-- from one lawful world to another, in which the other passes stand as they did, and no batch number is taken away
module _ (t : Terms) (w : World) (ok : Lawful t w) (w' : World) (ok' : Lawful t w') (p : ℕ) (below : p < count t) (else : (z : ℕ) → z ≢ p → known w'.passes z ≡ known w.passes z)
    (marks : (z : ℕ) → z ≢ p → mark_of ok'.shown z ≡ 0 → mark_of ok.shown z ≡ 0) where
  way-else : (z : ℕ) → z ≢ p → way t w' ok' z ≤ way t w ok z
  way-else z n = subst (λ (q : PassState). stage q + unmarked q (mark_of ok'.shown z) ≤ way t w ok z) (sym (else z n))
      (let a = unmarked-le (known w.passes z) (mark_of ok.shown z) (mark_of ok'.shown z) (marks z n) in omega arith)

  way-all : way t w' ok' p ≤ way t w ok p → (z : ℕ) → way t w' ok' z ≤ way t w ok z
  way-all h z = Chain.by_eq z p (λ e. subst (λ y. way t w' ok' y ≤ way t w ok y) (sym e) h) (λ n. way-else z n)

  wait-all : wait t w' ok' p ≤ wait t w ok p → ((z : ℕ) → z ≢ p → wait t w' ok' z ≡ wait t w ok z) → (z : ℕ) → wait t w' ok' z ≤ wait t w ok z
  wait-all h f z = Chain.by_eq z p (λ e. subst (λ y. wait t w' ok' y ≤ wait t w ok y) (sym e) h) (λ n. (let a = f z n in omega arith))

  -- one pass has less far to go
  pub lower-way : (c : ℕ) → c < count t → way t w' ok' p ≤ way t w ok p → way t w' ok' c < way t w ok c → number t w' ok' < number t w ok
  lower-way c b h l = less (total (count t) (way t w ok)) (total (count t) (wait t w ok)) (total (count t) (way t w' ok')) (total (count t) (wait t w' ok')) (most_wait (count t))
      (total-lt (count t) c (way t w' ok') (way t w ok) (way-all h) b l) (wait-most t w' ok')

  -- the pass comes to a later stage
  pub lower-stage : (v : PassState) → known w'.passes p ≡ v → stage v + 2 ≤ stage (known w.passes p) → number t w' ok' < number t w ok
  lower-stage v here h = let l : way t w' ok' p < way t w ok p = subst (λ (q : PassState). stage q + unmarked q (mark_of ok'.shown p) < way t w ok p) (sym here)
      (let a = unmarked-most v (mark_of ok'.shown p) in omega arith) in lower-way p below (omega arith) l

  -- nobody has farther to go, or longer to wait
  pub no-longer : way t w' ok' p ≤ way t w ok p → ((z : ℕ) → z ≢ p → wait t w' ok' z ≡ wait t w ok z) → wait t w' ok' p ≤ wait t w ok p → number t w' ok' ≤ number t w ok
  no-longer h f k = no-more (total (count t) (way t w ok)) (total (count t) (wait t w ok)) (total (count t) (way t w' ok')) (total (count t) (wait t w' ok')) (most_wait (count t))
      (total-le (count t) (way t w' ok') (way t w ok) (way-all h)) (total-le (count t) (wait t w' ok') (wait t w ok) (wait-all k f))

  -- and the pass has less long
  pub shorter : way t w' ok' p ≤ way t w ok p → ((z : ℕ) → z ≢ p → wait t w' ok' z ≡ wait t w ok z) → wait t w' ok' p < wait t w ok p → number t w' ok' < number t w ok
  shorter h f k = second-less (total (count t) (way t w ok)) (total (count t) (wait t w ok)) (total (count t) (way t w' ok')) (total (count t) (wait t w' ok')) (most_wait (count t))
      (total-le (count t) (way t w' ok') (way t w ok) (way-all h)) (total-lt (count t) p (wait t w' ok') (wait t w ok) (wait-all (omega arith) f) below k)

  -- the other passes wait as they did, where no word of theirs, nor the lock word, says otherwise
  pub wait-else : ((z : ℕ) → z ≢ p → mark_of ok'.shown z ≡ mark_of ok.shown z) → ((z : ℕ) → z ≢ p → ready_of (look w'.words (State z)) ≡ ready_of (look w.words (State z)))
      → look w'.words Lock ≡ look w.words Lock → ((z : ℕ) → z ≢ p → is_round (known w.passes z).phase ≡ true → left t w' ok' z ≡ left t w ok z)
      → (z : ℕ) → z ≢ p → wait t w' ok' z ≡ wait t w ok z
  wait-else same ready lock lefts z n = ⊎_elim
      (λ r. (λ j. slack (count t) (else z n j) (ready z n j) (lock j) (same z n j) (lefts z n r j)))
      (λ r. (λ j. slack (count t) (else z n j) (ready z n j) (lock j) (same z n j) (left t w' ok' z))
      ∙ slack-left (count t) (known w.passes z) (ready_of (look w.words (State z))) (look w.words Lock) (mark_of ok.shown z) (left t w' ok' z) (left t w ok z) r)
      (true-or (is_round (known w.passes z).phase))
