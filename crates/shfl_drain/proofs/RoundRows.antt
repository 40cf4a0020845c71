-- The steps of a round of shuffling, and the one that begins it: the head comes nearer to its end, a waiter waits on.
use Rattle.std.proofs.Common.{◌≡◌, ℕ, zero, suc, ◌+◌, ◌<◌, ◌≤◌, Bool, true, false, cond, ◌==◌, length, set, refl, sym, ap, ◌∙◌, inl, inr, arith}
use Rattle.std.specs.Prelude.{◌||◌, ◌⊎◌, not, List}
use Rattle.shfl_line.specs.Line.{mark_of}
use Rattle.shfl_line.specs.Words.{ready_of}
use Rattle.shfl_core.specs.declared.phase.Phase.{Phase}
use Rattle.shfl_core.specs.declared.phase.Phase.TheVariants as phase
use Rattle.shfl_core.specs.declared.phase.Registers.{Registers as Regs}
use Rattle.shfl_core.specs.declared.phase.Nap.TheVariants.{Awake}
use Rattle.shfl_core.specs.declared.phase.PassState.{PassState}
use Rattle.shfl_core.specs.declared.phase.Rules.{Rules}
use Rattle.shfl_core.specs.declared.words.Word.{Word}
use Rattle.shfl_core.specs.declared.words.Word.TheVariants.{Lock, Tail as TailWord, Next as NextOf, State as StateOf, Attr as AttrOf}
use Rattle.shfl_core.specs.Words.{look, index}
use Rattle.shfl_core.specs.Phases.{is_round, is_fore}
use Rattle.shfl_core.specs.Take.{take_at, to, stops}
use Rattle.shfl_core.specs.Worlds.{World, known}
use Rattle.shfl_core.specs.View.{view}
use Rattle.shfl_core.specs.Order.{is_head}
use Rattle.shfl_core.specs.Events.{event_at}
use Rattle.shfl_core.specs.Lawful.{Terms, count, Lawful, Advances}
use Rattle.shfl_core.proofs.Lists.{set-read}
use Rattle.shfl_laws.specs.Rounds.{left}
use Rattle.shfl_laws.proofs.words.Frame.{look-else}
use Rattle.shfl_drain.specs.GoingOn.{waits_at}
use Rattle.shfl_drain.proofs.Bools.{true-or}
use Rattle.shfl_drain.proofs.Stages.{stage}
use Rattle.shfl_drain.proofs.Slack.{slack}
use Rattle.shfl_drain.proofs.Spares.{Quiet, is_mark}
use Rattle.shfl_drain.proofs.Number.{unmarked}
use Rattle.shfl_drain.proofs.Row.{found, goes, next, Leaves, RoundsKept, RoundFalls, stood, own-mark, stands-here, sooner, no-later}
use Rattle.shfl_drain.proofs.Paces.{slack-round, stage-round, queued-round}

-- a step in the midst of a round
abbrev pub inner : Phase → Bool
inner phase.Next = true
inner phase.Tail = true
inner phase.Attr = true
inner phase.Decide = true
inner phase.After = true
inner phase.Pick = true
inner phase.Aim = true
inner phase.Place = true
inner _ = false

pub inner-round : (f : Phase) → inner f ≡ true → is_round f ≡ true
inner-round f e = grind arith

inner-off : (f : Phase) → inner f ≡ true → is_mark f ≡ false
inner-off f e = grind arith

inner-quiet : (t : Rules) (p : ℕ) (r : Regs) (n : ℕ) (f : Phase) → inner f ≡ true → Quiet (event_at t p r n f)
inner-quiet t p r n phase.Next e = tt
inner-quiet t p r n phase.Tail e = tt
inner-quiet t p r n phase.Attr e = tt
inner-quiet t p r n phase.Decide e = tt
inner-quiet t p r n phase.After e = tt
inner-quiet t p r n phase.Pick e = tt
inner-quiet t p r n phase.Aim e = tt
inner-quiet t p r n phase.Place e = tt
inner-quiet t p r n _ e = absurd (cc)

-- where it leads: on in the round, awake
pub record GoesRound (h : Bool) (v : PassState) : Type 0 where
  pub round : is_round v.phase ≡ true
  pub headed : v.reg.headed ≡ h
  pub awake : v.nap ≡ Awake

either : (h b : Bool) (x y : PassState) → GoesRound h x → GoesRound h y → GoesRound h (cond b x y)
either h true x y a b = a
either h false x y a b = b

either-phase : (r : Regs) (b : Bool) (f g : Phase) → is_round f ≡ true → is_round g ≡ true → GoesRound r.headed (to (cond b f g) r)
either-phase r true f g x y = record { round = x; headed = refl; awake = refl }
either-phase r false f g x y = record { round = y; headed = refl; awake = refl }

pub inner-goes : (t : Rules) (p : ℕ) (r : Regs) (n : ℕ) (c : Bool) (f : Phase) → inner f ≡ true → GoesRound r.headed (take_at t p r n c f)
inner-goes t p r zero c phase.Next e = record { round = refl; headed = refl; awake = refl }
inner-goes t p r (suc n) c phase.Next e = record { round = refl; headed = refl; awake = refl }
inner-goes t p r n c phase.Tail e = either-phase r (n == r.cand + 1) phase.Give phase.Attr refl refl
inner-goes t p r n c phase.Attr e = record { round = refl; headed = refl; awake = refl }
inner-goes t p r n c phase.Decide e = either r.headed (stops r n) (to phase.Give r) (cond c (to (cond (r.prev == r.last) phase.Mark phase.After) r) (to phase.Next (record r { prev = r.cand })))
    (record { round = refl; headed = refl; awake = refl })
    (either r.headed c (to (cond (r.prev == r.last) phase.Mark phase.After) r) (to phase.Next (record r { prev = r.cand })) (either-phase r (r.prev == r.last) phase.Mark phase.After refl refl) (record { round = refl; headed = refl; awake = refl }))
inner-goes t p r zero c phase.After e = record { round = refl; headed = refl; awake = refl }
inner-goes t p r (suc n) c phase.After e = record { round = refl; headed = refl; awake = refl }
inner-goes t p r n c phase.Pick e = record { round = refl; headed = refl; awake = refl }
inner-goes t p r n c phase.Aim e = record { round = refl; headed = refl; awake = refl }
inner-goes t p r n c phase.Place e = record { round = refl; headed = refl; awake = refl }
inner-goes t p r n c _ e = absurd (cc)

-- a waiter that isn't the head waits in its round
pub waits-round : (w : World) (p : ℕ) (f : Phase) → inner f ≡ true → is_head (view w) p ≡ false → waits_at w p f ≡ true
waits-round w p phase.Next e h = ap not h
waits-round w p phase.Tail e h = ap not h
waits-round w p phase.Attr e h = ap not h
waits-round w p phase.Decide e h = ap not h
waits-round w p phase.After e h = ap not h
waits-round w p phase.Pick e h = ap not h
waits-round w p phase.Aim e h = ap not h
waits-round w p phase.Place e h = ap not h
waits-round w p _ e h = absurd (cc)

pub fore-round : (r : Regs) (f : Phase) → is_round f ≡ true → is_fore (to f r) ≡ r.headed
fore-round r phase.Next e = refl
fore-round r phase.Tail e = refl
fore-round r phase.Attr e = refl
fore-round r phase.Decide e = refl
fore-round r phase.After e = refl
fore-round r phase.Pick e = refl
fore-round r phase.Aim e = refl
fore-round r phase.Place e = refl
fore-round r phase.Mark e = refl
fore-round r phase.Give e = refl
fore-round r _ e = absurd (cc)

-- a load changes no word, and a store to a next word neither a state word nor the lock word
words-load : (l : List ℕ) (u x : Word) → look (set l (index u) (look l u)) x ≡ look l x
words-load l u x = ap (λ (z : List ℕ). look z x) (set-read l (index u) 0)

inner-state : (t : Terms) (w : World) (p : ℕ) (c : Bool) (f : Phase) → inner f ≡ true → (z : ℕ) → look (next t w p f c).words (StateOf z) ≡ look w.words (StateOf z)
inner-state t w p c phase.Next e z = words-load w.words (NextOf (known w.passes p).reg.prev) (StateOf z)
inner-state t w p c phase.Tail e z = words-load w.words TailWord (StateOf z)
inner-state t w p c phase.Attr e z = words-load w.words (AttrOf (known w.passes p).reg.cand) (StateOf z)
inner-state t w p c phase.Decide e z = words-load w.words (cond (known w.passes p).reg.headed Lock (StateOf p)) (StateOf z)
inner-state t w p c phase.After e z = words-load w.words (NextOf (known w.passes p).reg.cand) (StateOf z)
inner-state t w p c phase.Pick e z = look-else w.words (NextOf (known w.passes p).reg.prev) (StateOf z) ((known w.passes p).reg.after + 1) (λ i. omega arith)
inner-state t w p c phase.Aim e z = look-else w.words (NextOf (known w.passes p).reg.cand) (StateOf z) ((known w.passes p).reg.first + 1) (λ i. omega arith)
inner-state t w p c phase.Place e z = look-else w.words (NextOf (known w.passes p).reg.last) (StateOf z) ((known w.passes p).reg.cand + 1) (λ i. omega arith)
inner-state t w p c _ e z = absurd (cc)

inner-lock : (t : Terms) (w : World) (p : ℕ) (c : Bool) (f : Phase) → inner f ≡ true → look (next t w p f c).words Lock ≡ look w.words Lock
inner-lock t w p c phase.Next e = words-load w.words (NextOf (known w.passes p).reg.prev) Lock
inner-lock t w p c phase.Tail e = words-load w.words TailWord Lock
inner-lock t w p c phase.Attr e = words-load w.words (AttrOf (known w.passes p).reg.cand) Lock
inner-lock t w p c phase.Decide e = words-load w.words (cond (known w.passes p).reg.headed Lock (StateOf p)) Lock
inner-lock t w p c phase.After e = words-load w.words (NextOf (known w.passes p).reg.cand) Lock
inner-lock t w p c phase.Pick e = look-else w.words (NextOf (known w.passes p).reg.prev) Lock ((known w.passes p).reg.after + 1) (λ i. omega arith)
inner-lock t w p c phase.Aim e = look-else w.words (NextOf (known w.passes p).reg.cand) Lock ((known w.passes p).reg.first + 1) (λ i. omega arith)
inner-lock t w p c phase.Place e = look-else w.words (NextOf (known w.passes p).reg.last) Lock ((known w.passes p).reg.cand + 1) (λ i. omega arith)
inner-lock t w p c _ e = absurd (cc)

module _ (t : Terms) (w : World) (ok : Lawful t w) (p : ℕ) (below : p < length w.passes) (f : Phase) (c : Bool) (nap : (known w.passes p).nap ≡ Awake) (at : (known w.passes p).phase ≡ f)
    (a : Advances t w ok (event_at t.rules p (known w.passes p).reg (found t w p f) f) (next t w p f c))
    (kept : RoundsKept t w ok (next t w p f c) a.lawful p) (falls : RoundFalls t w ok (next t w p f c) a.lawful p) where
  abbrev r : Regs
  r = (known w.passes p).reg

  abbrev w' : World
  w' = next t w p f c

  pub inner-row : inner f ≡ true → Leaves t w ok (next t w p f c) a.lawful (waits_at w p f)
  inner-row e = by (true-or (r.headed || ready_of (look w.words (StateOf p))))
    where
      rounds : is_round f ≡ true
      rounds = inner-round f e

      g : GoesRound (known w.passes p).reg.headed (goes t w p f c)
      g = inner-goes t.rules p r (found t w p f) c f e

      ready : (z : ℕ) → ready_of (look (next t w p f c).words (StateOf z)) ≡ ready_of (look w.words (StateOf z))
      ready z = ap ready_of (inner-state t w p c f e z)

      mark : mark_of a.lawful.shown p ≡ mark_of ok.shown p
      mark = own-mark t w ok p below f c (inner-off f e) nap at a kept (goes t w p f c) refl (inner-quiet t.rules p r (found t w p f) f e)

      way-le : stage (goes t w p f c) + unmarked (goes t w p f c) (mark_of a.lawful.shown p) ≤ stage (to f (known w.passes p).reg) + unmarked (to f (known w.passes p).reg) (mark_of ok.shown p)
      way-le = let x : stage (goes t w p f c) ≡ cond r.headed 18 20 = stage-round (goes t w p f c).reg.headed (goes t w p f c).phase g.round ∙ ap (λ z. cond z 18 20) g.headed in
          let y = stage-round r.headed f rounds in
          let u : unmarked (goes t w p f c) (mark_of a.lawful.shown p) ≡ unmarked (to f r) (mark_of ok.shown p) = (λ j. cond (queued-round (goes t w p f c).phase g.round j) (cond (mark j == 0) 1 0) 0) ∙ sym (ap (λ z. cond z (cond (mark_of ok.shown p == 0) 1 0) 0) (queued-round f rounds)) in
          omega arith

      new : slack (count t) (goes t w p f c) (ready_of (look (next t w p f c).words (StateOf p))) (look (next t w p f c).words Lock) (mark_of a.lawful.shown p) (left t (next t w p f c) a.lawful p)
          ≡ cond ((known w.passes p).reg.headed || ready_of (look w.words (StateOf p))) (3 + left t (next t w p f c) a.lawful p) 0
      new = slack-round (count t) (goes t w p f c) (ready_of (look w'.words (StateOf p))) (look w'.words Lock) (mark_of a.lawful.shown p) (left t w' a.lawful p) g.round g.awake
          ∙ (λ j. cond (g.headed j || ready p j) (3 + left t w' a.lawful p) 0)

      old : slack (count t) (to f (known w.passes p).reg) (ready_of (look w.words (StateOf p))) (look w.words Lock) (mark_of ok.shown p) (left t w ok p)
          ≡ cond ((known w.passes p).reg.headed || ready_of (look w.words (StateOf p))) (3 + left t w ok p) 0
      old = slack-round (count t) (to f r) (ready_of (look w.words (StateOf p))) (look w.words Lock) (mark_of ok.shown p) (left t w ok p) rounds refl

      less : left t (next t w p f c) a.lawful p < left t w ok p
      less = falls (ap is_round at ∙ rounds) (ap (λ (q : PassState). is_round q.phase) (stands-here t w ok p below f c) ∙ g.round)

      head : ((known w.passes p).reg.headed || ready_of (look w.words (StateOf p))) ≡ false → is_head (view w) p ≡ false
      head h = ap (λ (q : PassState). is_fore q || ready_of (look w.words (StateOf p))) (stood t w ok p below f c (inner-off f e) nap at a kept (goes t w p f c) refl) ∙ (ap (λ z. z || ready_of (look w.words (StateOf p))) (fore-round r f rounds) ∙ h)

      by : ((r.headed || ready_of (look w.words (StateOf p))) ≡ true) ⊎ ((r.headed || ready_of (look w.words (StateOf p))) ≡ false) → Leaves t w ok (next t w p f c) a.lawful (waits_at w p f)
      by (inl h) = sooner t w ok p below f c (inner-off f e) nap at a kept (goes t w p f c) refl (λ z _. ready z) (inner-lock t w p c f e) way-le
          (let x = new ∙ ap (λ b. cond b (3 + left t w' a.lawful p) 0) h in let y = old ∙ ap (λ b. cond b (3 + left t w ok p) 0) h in let z = less in omega arith)
      by (inr h) = no-later t w ok p below f c (inner-off f e) nap at a kept (goes t w p f c) refl (λ z _. ready z) (inner-lock t w p c f e) way-le
          (let x = new ∙ ap (λ b. cond b (3 + left t w' a.lawful p) 0) h in let y = old ∙ ap (λ b. cond b (3 + left t w ok p) 0) h in omega arith)
          (waits-round w p f e (head h))
