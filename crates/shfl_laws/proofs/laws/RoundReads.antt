-- The laws of Next, Tail, Attr, Decide and After, over words.
use Rattle.std.proofs.Common.{◌≡◌, ◌≢◌, ℕ, zero, suc, ◌+◌, ◌<◌, ◌==◌, Bool, true, false, cond, length, set, refl, ap, arith}
use Rattle.shfl_line.specs.declared.events.LineEvent.TheVariants.{Nothing}
use Rattle.shfl_core.specs.declared.phase.Phase.TheVariants.{Next, Tail, Attr, Decide, After, Mark, Give}
use Rattle.shfl_core.specs.declared.phase.Nap.TheVariants.{Awake}
use Rattle.shfl_core.specs.declared.phase.PassState.{PassState}
use Rattle.shfl_core.specs.declared.words.Word.{Word}
use Rattle.shfl_core.specs.declared.words.Word.TheVariants.{Lock, Tail as TailWord, Next as NextOf, State as StateOf, Attr as AttrOf}
use Rattle.shfl_core.specs.Words.{look, index, wide}
use Rattle.shfl_core.specs.Take.{to, next_found, after_found, decided, stops}
use Rattle.shfl_core.specs.Worlds.{World, known}
use Rattle.shfl_core.specs.Phases.{is_round, decide_to_pick, tail_to_pick}
use Rattle.shfl_core.specs.View.{view}
use Rattle.shfl_core.specs.Lawful.{Terms, count, Lawful, Advances, LawOf}
use Rattle.shfl_laws.proofs.words.Advance.{at-phase}
use Rattle.shfl_laws.proofs.rows.Loads.{Rounded, give, next-round}
use Rattle.shfl_laws.proofs.rows.RoundLoads.{Stays, round-load}
use Rattle.shfl_laws.proofs.rows.RoundLaws.{Candidate, candidate, same-round, tail-round, attr-round, after-round, passed-by, chosen}

-- the registers that a step of a round sets are none of those that name the batch
on-registers : (q v : PassState) → is_round q.phase ≡ true → (q.phase ≢ Give) → is_round v.phase ≡ true → v.nap ≡ Awake → v.reg.last ≡ q.reg.last → v.reg.count ≡ q.reg.count → v.reg.batch ≡ q.reg.batch → v.reg.flag ≡ q.reg.flag → v.reg.headed ≡ q.reg.headed → v.reg.mode ≡ q.reg.mode → v.reg.me ≡ q.reg.me → Stays q v
on-registers q v a b c d e f g h i j k = record { old = a; new = c; awake = d; last = e; count = f; batch = g; flag = h; headed = i; mode = j; me = k; gives = b }

next-stays : (q : PassState) → q.phase ≡ Next → (n : ℕ) → Stays q (next_found q.reg n)
next-stays q f zero = same-round q Next Give f refl refl (λ i. grind arith)
next-stays q f (suc c) = on-registers q (next_found q.reg (suc c)) (ap is_round f) (λ i. grind (arith, f)) refl refl refl refl refl refl refl refl refl

after-stays : (q : PassState) → q.phase ≡ After → (n : ℕ) → Stays q (after_found q.reg n)
after-stays q f zero = same-round q After Give f refl refl (λ i. grind arith)
after-stays q f (suc c) = on-registers q (after_found q.reg (suc c)) (ap is_round f) (λ i. grind (arith, f)) refl refl refl refl refl refl refl refl refl

tail-stays : (q : PassState) → q.phase ≡ Tail → (b : Bool) → Stays q (to (cond b Give Attr) q.reg)
tail-stays q f true = same-round q Tail Give f refl refl (λ i. grind arith)
tail-stays q f false = same-round q Tail Attr f refl refl (λ i. grind arith)

module _ (t : Terms) (w : World) (p : ℕ) (ok : Lawful t w) (below : p < length w.passes) (nap : (known w.passes p).nap ≡ Awake) where
  abbrev q : PassState
  q = known w.passes p

  rounded : is_round q.phase ≡ true → Rounded (view w) ok.shown q
  rounded h = ok.agrees.order.round p h

  pub prev-there : is_round q.phase ≡ true → q.reg.prev < count t
  prev-there h = ok.of_passes.line q.reg.prev (rounded h).prev_in

  here : is_round q.phase ≡ true → tail_to_pick q.phase ≡ true → Candidate (view w) ok.shown q
  here h k = candidate t.rules.limit (view w) ok.shown ok.giver p ok.agrees.order ok.agrees.grouping h k

  pub cand-there : is_round q.phase ≡ true → tail_to_pick q.phase ≡ true → q.reg.cand < count t
  cand-there h k = ok.of_passes.line q.reg.cand (here h k).inside

  own-there : p < count t
  own-there = let s = ok.seats in omega arith

  law-next : q.phase ≡ Next → Advances t w ok Nothing (record { words = set w.words (index (NextOf q.reg.prev)) (look w.words (NextOf q.reg.prev)); passes = set w.passes p (next_found q.reg (look w.words (NextOf q.reg.prev))) })
  law-next f = let h = prev-there (ap is_round f) in round-load t w p ok below nap (NextOf q.reg.prev) (let z : index (NextOf q.reg.prev) < wide (count t) = omega arith in z) (next_found q.reg (look w.words (NextOf q.reg.prev))) (next-stays q f (look w.words (NextOf q.reg.prev)))
      (next-round (view w) ok.shown q (rounded (ap is_round f)) f) (picks (look w.words (NextOf q.reg.prev)))
    where
      picks : (n : ℕ) → decide_to_pick (next_found q.reg n).phase ≡ true → (next_found q.reg n).reg.seen ≡ (view w).attr (next_found q.reg n).reg.cand
      picks zero e = absurd (cc)
      picks (suc c) e = absurd (cc)

  law-tail : q.phase ≡ Tail → (b : Bool) → (look w.words TailWord == q.reg.cand + 1) ≡ b → Advances t w ok Nothing (record { words = set w.words (index TailWord) (look w.words TailWord); passes = set w.passes p (to (cond b Give Attr) q.reg) })
  law-tail f b e = round-load t w p ok below nap TailWord (let z : index TailWord < wide (count t) = omega arith in z) (to (cond b Give Attr) q.reg) (tail-stays q f b) (tail-round (view w) ok.shown q (rounded (ap is_round f)) f b e) (picks b)
    where
      picks : (b : Bool) → decide_to_pick (cond b Give Attr) ≡ true → q.reg.seen ≡ (view w).attr q.reg.cand
      picks true e = absurd (cc)
      picks false e = absurd (cc)

  law-attr : q.phase ≡ Attr → Advances t w ok Nothing (record { words = set w.words (index (AttrOf q.reg.cand)) (look w.words (AttrOf q.reg.cand)); passes = set w.passes p (to Decide (record q.reg { seen = look w.words (AttrOf q.reg.cand) })) })
  law-attr f = let h = cand-there (ap is_round f) (ap tail_to_pick f) in let v : PassState = to Decide (record q.reg { seen = look w.words (AttrOf q.reg.cand) }) in
      round-load t w p ok below nap (AttrOf q.reg.cand) (let z : index (AttrOf q.reg.cand) < wide (count t) = omega arith in z) v
      (on-registers q v (ap is_round f) (λ i. grind (arith, f)) refl refl refl refl refl refl refl refl refl) (attr-round (view w) ok.shown q (look w.words (AttrOf q.reg.cand)) (rounded (ap is_round f)) f) (λ _. refl)

  law-after : q.phase ≡ After → Advances t w ok Nothing (record { words = set w.words (index (NextOf q.reg.cand)) (look w.words (NextOf q.reg.cand)); passes = set w.passes p (after_found q.reg (look w.words (NextOf q.reg.cand))) })
  law-after f = let h = cand-there (ap is_round f) (ap tail_to_pick f) in
      round-load t w p ok below nap (NextOf q.reg.cand) (let z : index (NextOf q.reg.cand) < wide (count t) = omega arith in z) (after_found q.reg (look w.words (NextOf q.reg.cand))) (after-stays q f (look w.words (NextOf q.reg.cand)))
      (after-round (view w) ok.shown q (rounded (ap is_round f)) f (look w.words (NextOf q.reg.cand)) refl) (picks (look w.words (NextOf q.reg.cand)))
    where
      picks : (n : ℕ) → decide_to_pick (after_found q.reg n).phase ≡ true → (after_found q.reg n).reg.seen ≡ (view w).attr (after_found q.reg n).reg.cand
      picks zero e = absurd (cc)
      picks (suc x) e = ok.agrees.registered.seen p (ap decide_to_pick f)

  abbrev site-of : Bool → Word
  site-of b = cond b Lock (StateOf p)

  near : (b : Bool) → index (site-of b) < wide (count t)
  near true = let z : index Lock < wide (count t) = omega arith in z
  near false = let h = own-there in (let z : index (StateOf p) < wide (count t) = omega arith in z)

  law-decide : q.phase ≡ Decide → (stop choice : Bool) → Advances t w ok Nothing (record { words = set w.words (index (site-of q.reg.headed)) (look w.words (site-of q.reg.headed)); passes = set w.passes p (decided q.reg stop choice) })
  law-decide f stop choice = round-load t w p ok below nap (site-of q.reg.headed) (near q.reg.headed) (decided q.reg stop choice) (stays stop choice (q.reg.prev == q.reg.last)) (rounds stop choice) (picks stop choice (q.reg.prev == q.reg.last))
    where
      stays : (stop choice b : Bool) → Stays q (cond stop (to Give q.reg) (cond choice (to (cond b Mark After) q.reg) (to Next (record q.reg { prev = q.reg.cand }))))
      stays true c b = same-round q Decide Give f refl refl (λ i. grind arith)
      stays false true true = same-round q Decide Mark f refl refl (λ i. grind arith)
      stays false true false = same-round q Decide After f refl refl (λ i. grind arith)
      stays false false b = on-registers q (to Next (record q.reg { prev = q.reg.cand })) (ap is_round f) (λ i. grind (arith, f)) refl refl refl refl refl refl refl refl refl

      rounds : (stop choice : Bool) → Rounded (view w) ok.shown (decided q.reg stop choice)
      rounds true c = give (view w) ok.shown q (rounded (ap is_round f)) (grind (arith, f))
      rounds false true = chosen (view w) ok.shown q (rounded (ap is_round f)) (here (ap is_round f) (ap tail_to_pick f)) f (q.reg.prev == q.reg.last) refl
      rounds false false = passed-by (view w) ok.shown q (rounded (ap is_round f)) (here (ap is_round f) (ap tail_to_pick f)) f

      picks : (stop choice b : Bool) → decide_to_pick (cond stop (to Give q.reg) (cond choice (to (cond b Mark After) q.reg) (to Next (record q.reg { prev = q.reg.cand })))).phase ≡ true
          → (cond stop (to Give q.reg) (cond choice (to (cond b Mark After) q.reg) (to Next (record q.reg { prev = q.reg.cand })))).reg.seen ≡ (view w).attr (cond stop (to Give q.reg) (cond choice (to (cond b Mark After) q.reg) (to Next (record q.reg { prev = q.reg.cand })))).reg.cand
      picks true c b e = absurd (cc)
      picks false true true e = absurd (cc)
      picks false true false e = ok.agrees.registered.seen p (ap decide_to_pick f)
      picks false false b e = absurd (cc)

pub next-law : (t : Terms) → LawOf t Next
next-law t = at-phase t Next (λ w p c ok below nap f. law-next t w p ok below nap f)

pub tail-law : (t : Terms) → LawOf t Tail
tail-law t = at-phase t Tail (λ w p c ok below nap f. law-tail t w p ok below nap f (look w.words TailWord == (known w.passes p).reg.cand + 1) refl)

pub attr-law : (t : Terms) → LawOf t Attr
attr-law t = at-phase t Attr (λ w p c ok below nap f. law-attr t w p ok below nap f)

pub after-law : (t : Terms) → LawOf t After
after-law t = at-phase t After (λ w p c ok below nap f. law-after t w p ok below nap f)

pub decide-law : (t : Terms) → LawOf t Decide
decide-law t = at-phase t Decide (λ w p c ok below nap f. law-decide t w p ok below nap f (stops (known w.passes p).reg (look w.words (cond (known w.passes p).reg.headed Lock (StateOf p)))) c)
