-- Give, as the world is read: the flag goes to the batch's last, and where a round leads in the end.
use Rattle.std.proofs.Common.{◌≡◌, ◌≢◌, ℕ, suc, ◌<◌, ◌==◌, Bool, true, false, cond, List, ◌∷◌, refl, sym, ap, ◌∙◌, subst, ⊎_elim, arith}
use Rattle.std.specs.Prelude.{Option, Some, None, ◌||◌}
use Rattle.std.proofs.lemmas.Bool.Decides.{nat_tests}
use Rattle.shfl_line.specs.declared.events.Mode.{Mode}
use Rattle.shfl_line.specs.declared.events.Mode.TheVariants.{Write, Read}
use Rattle.shfl_line.specs.declared.events.Role.TheVariants.{Rest}
use Rattle.shfl_line.specs.declared.words.NodeState.{NodeState}
use Rattle.shfl_line.specs.Line.{Line, mark_of, active_shuffler}
use Rattle.shfl_line.specs.Words.{link_word}
use Rattle.shfl_line.specs.Passes.{updated, times, first, Chain, EachPair, MarkedFirst, StopsAt, IsLastMarked}
use Rattle.shfl_line.proofs.Chain
use Rattle.shfl_line.proofs.Marks
use Rattle.shfl_core.specs.declared.phase.Phase.TheVariants.{Look, Begin, Give, Swap, Ready, Late, WriteGrab, Grab}
use Rattle.shfl_core.specs.declared.phase.Registers.{Registers as Regs}
use Rattle.shfl_core.specs.declared.phase.Nap.TheVariants.{Awake}
use Rattle.shfl_core.specs.declared.phase.PassState.{PassState}
use Rattle.shfl_core.specs.Take.{to, given, done, seek}
use Rattle.shfl_core.specs.Phases.{is_round, is_queued, is_fore, is_linking, has_hand, knows, is_holding, is_writing, is_reading, decide_to_pick}
use Rattle.shfl_core.specs.View.{View}
use Rattle.shfl_core.specs.Order.{Order as Ordered}
use Rattle.shfl_core.specs.Grouping.{Grouping}
use Rattle.shfl_core.specs.Holding.{backs}
use Rattle.shfl_laws.proofs.rows.Order
use Rattle.shfl_laws.proofs.rows.Quiet.{Quiet, moved, quiet-order}
use Rattle.shfl_laws.proofs.rows.Relink.{walk-no-rest}
use Rattle.shfl_laws.proofs.rows.MarkRow.{knows-cases}
use Rattle.shfl_laws.proofs.kept.Flagged.{FlagOnly}

-- the pass after its round: at the queue's head it looks for the free lock, else it waits
pub record Ended (q v : PassState) : Type 0 where
  pub awake : v.nap ≡ Awake
  pub queued : is_queued v ≡ true
  pub fore : is_fore v ≡ q.reg.headed
  pub round : is_round v.phase ≡ false
  pub link : is_linking v.phase ≡ false
  pub ready : v.phase ≢ Ready
  pub swap : v.phase ≢ Swap
  pub begin : v.phase ≢ Begin
  pub late : v.phase ≢ Late
  pub compare : v.phase ≢ WriteGrab
  pub grab : v.phase ≢ Grab
  pub picks : decide_to_pick v.phase ≡ false
  pub holding : is_holding v.phase ≡ false
  pub backing : backs v ≡ 0
  pub writing : is_writing v.phase ≡ true → v.reg.mode ≡ Write
  pub reading : is_reading v.phase ≡ true → v.reg.mode ≡ Read

pub ended : (q : PassState) (r : Regs) → r.headed ≡ q.reg.headed → Ended q (to (done r) r)
ended q r e = by r.headed r.mode e refl
  where
    by : (b : Bool) (m : Mode) → b ≡ q.reg.headed → r.mode ≡ m → Ended q (to (cond b (seek m) Look) r)
    by true Write e m = record { awake = refl; queued = refl; fore = e; round = refl; link = refl; ready = λ i. grind arith; swap = λ i. grind arith; begin = λ i. grind arith; late = λ i. grind arith; compare = λ i. grind arith; grab = λ i. grind arith; picks = refl; holding = refl; backing = refl; writing = λ _. m; reading = λ i. absurd (cc) }
    by true Read e m = record { awake = refl; queued = refl; fore = e; round = refl; link = refl; ready = λ i. grind arith; swap = λ i. grind arith; begin = λ i. grind arith; late = λ i. grind arith; compare = λ i. grind arith; grab = λ i. grind arith; picks = refl; holding = refl; backing = refl; writing = λ i. absurd (cc); reading = λ _. m }
    by false m e n = record { awake = refl; queued = refl; fore = e; round = refl; link = refl; ready = λ i. grind arith; swap = λ i. grind arith; begin = λ i. grind arith; late = λ i. grind arith; compare = λ i. grind arith; grab = λ i. grind arith; picks = refl; holding = refl; backing = refl; writing = λ i. absurd (cc); reading = λ i. absurd (cc) }

module _ (limit : ℕ) (w : View) (s : Line) (g p : ℕ) (o : Ordered w s g) (k : Grouping limit w s) (f : (w.pass p).phase ≡ Give) where
  abbrev l : ℕ
  l = (w.pass p).reg.last

  abbrev flag : NodeState
  flag = record (w.node l) { shuffler = true }

  abbrev nodes : ℕ → NodeState
  nodes = updated w.node l flag

  abbrev here : PassState
  here = given p (w.pass p).reg

  abbrev s' : Line
  s' = record s { role = Rest l }

  rp : is_round (w.pass p).phase ≡ true
  rp = ap is_round f

  inside : 0 < times l s.line
  inside = (k.last p rp).0.inside

  own : Ended (w.pass p) here
  own = ended (w.pass p) (record (w.pass p).reg { flag = (w.pass p).reg.flag || (l == p) }) refl

  pub flags-only : (q : ℕ) → FlagOnly (w.node q) (nodes q)
  flags-only = Chain.updated-all (λ q z. FlagOnly (w.node q) z) w.node l flag (record { ready = refl; parked = refl; spin = refl; batch = refl }) (λ q n. record { ready = refl; parked = refl; spin = refl; batch = refl })

  pub quiet : Quiet (w.pass p) here
  quiet = record { queued = own.queued ∙ sym (grind (arith, f)); fore = own.fore ∙ sym (grind (arith, f)); no_link = (grind (arith, f), own.link); no_ready = (λ i. grind (arith, f, i), own.ready); no_swap = own.swap }

  no-hand : (h : Option ℕ) → link_word h ≡ 0 → h ≡ None
  no-hand None e = refl
  no-hand (Some x) e = absurd (omega arith)

  pub give-order : Ordered (moved w w.held w.closed w.readers nodes p here) s' g
  give-order = quiet-order w s g w.held w.closed w.readers nodes p here o quiet (λ q. (flags-only q).ready) s.hold (Rest l)
      (λ _. no-hand s.hand ((o.round p rp).hand_is ∙ (λ j. cond (ap has_hand f j) (suc (w.pass p).reg.cand) 0)))
      (λ e. absurd (let z = own.round in cc))
      (λ q e. Chain.updated-else w.node l q flag (λ i. (let u = Order.queued-in w s l o.stands inside in let x : (w.pass l).phase ≡ Swap = subst (λ z. (w.pass z).phase ≡ Swap) i e in grind (arith, x, u))))

  queued-same : (q : ℕ) → is_queued (updated w.pass p here q) ≡ is_queued (w.pass q)
  queued-same = Chain.updated-all (λ q t. is_queued t ≡ is_queued (w.pass q)) w.pass p here quiet.queued (λ q n. refl)

  own-in-line : active_shuffler s.role ≡ suc p → 0 < times p s.line
  own-in-line e = let a = o.stands p in let h = k.hand p in let m = (k.walker p e).1 in grind (arith, nat_tests, a, f, h, m)

  -- the batch's last, where it isn't the pass itself, waits and is in no round
  last-waits : l ≢ p → knows (w.pass l).phase ≡ true → ⊥
  last-waits d h = ⊎_elim (λ a. off (grind (arith, a)))
      (λ b. ⊎_elim (λ r. d (Order.alone limit w s p l k rp r))
      (λ r. by-flag (w.pass l).reg.flag refl r) b)
      (knows-cases (w.pass l).phase h)
    where
      off : is_fore (w.pass l) ≡ true → ⊥
      off a = let t = o.fronted.only l (Order.queued-in w s l o.stands inside) (grind (arith, a)) in let z = Order.scene w s g l o inside in first-is z.0 z.1 z.2 t.0
        where
          first-is : (x : ℕ) (xs : List ℕ) → Order.Scene w s x xs → first s.line ≡ suc l → ⊥
          first-is x xs v e = let same : x ≡ l = (let u = ap first v.line in omega arith) in
              let prefix : Chain (MarkedFirst (mark_of s)) x xs = subst (λ z. EachPair (MarkedFirst (mark_of s)) z) v.line k.prefix in
              let stops : Chain (StopsAt (mark_of s) x) x xs = subst (λ z. Chain (StopsAt (mark_of s) z) x xs) (sym same) (subst (λ z. EachPair (StopsAt (mark_of s) l) z) v.line (k.last p rp).0.stops) in
              let walker = (k.walker p (k.walks p rp)).1 in
              let mine : 0 < times p (x ∷ xs) = subst (λ z. 0 < times p z) v.line (own-in-line (k.walks p rp)) in
              let none : mark_of s p ≡ 0 = Marks.first-last (mark_of s) x p xs prefix stops (let n : x ≢ p = (λ i. d (sym same ∙ i)) in grind (arith, nat_tests, mine, n)) in omega arith

      by-flag : (b : Bool) → (w.pass l).reg.flag ≡ b → (w.pass l).phase ≡ Begin → ⊥
      by-flag true e r = let n = k.known l (grind (arith, r)) in walk-no-rest s.role p l (k.walks p rp) (k.flagged l (grind (arith, r)) (sym n.1 ∙ e))
      by-flag false e r = let t = k.begins l r e in off (grind (arith, r, t))

  no-round : (q : ℕ) → is_round (updated w.pass p here q).phase ≡ true → ⊥
  no-round = Chain.updated-all (λ q t. is_round t.phase ≡ true → ⊥) w.pass p here (λ e. (let z = own.round in absurd (cc))) (λ q n e. n (Order.alone limit w s p q k rp e))

  pub give-grouping : Grouping limit (moved w w.held w.closed w.readers nodes p here) s'
  give-grouping = record {
    mark = λ q. k.mark q ∙ (λ j. cond (sym (queued-same q) j) (sym (flags-only q).batch j) 0);
    hand = k.hand;
    within = k.within;
    walks = λ q e. absurd (no-round q e);
    walker = λ q e. absurd (omega arith);
    flagged = λ q a b. Chain.by_eq q l (λ e. ap suc (sym e)) (λ n. absurd (walk-no-rest s.role p q (k.walks p rp) (k.flagged q (sym (queued-same q) ∙ a) (sym (ap (λ (z : NodeState). z.shuffler) (Chain.updated-else w.node l q flag n)) ∙ b))));
    rester = λ q e. let same : l ≡ q = omega arith in subst (λ z. (is_queued (updated w.pass p here z) ≡ true) × ((nodes z).shuffler ≡ true)) same (queued-same l ∙ Order.queued-in w s l o.stands inside, ap (λ (z : NodeState). z.shuffler) (Chain.updated-same w.node l flag));
    prefix = k.prefix;
    rests = λ q e. let same : l ≡ q = omega arith in subst (λ z. IsLastMarked (mark_of s) s.line z) same (k.last p rp).0;
    last = λ q e. absurd (no-round q e);
    known = Chain.updated-all (λ q t. knows t.phase ≡ true → (t.reg.batch ≡ (nodes q).batch) × (t.reg.flag ≡ (nodes q).shuffler)) w.pass p here
        (λ _. let n = k.known p (grind (arith, f)) in (n.0 ∙ sym (flags-only p).batch, by (l == p) refl n.1))
        (λ q n e. Chain.by_eq q l
        (λ i. absurd (last-waits (λ j. n (i ∙ j)) (subst (λ z. knows (w.pass z).phase ≡ true) i e)))
        (λ m. let t = k.known q e in let same = Chain.updated-else w.node l q flag m in (t.0 ∙ ap (λ (z : NodeState). z.batch) (sym same), t.1 ∙ ap (λ (z : NodeState). z.shuffler) (sym same))));
    begins = Chain.updated-all (λ q t. t.phase ≡ Begin → t.reg.flag ≡ false → (t.reg.headed ≡ true) × (t.reg.batch ≡ 0)) w.pass p here (λ e. absurd (own.begin e)) (λ q n. k.begins q);
  }
    where
      or-true : (a : Bool) → (a || true) ≡ true
      or-true true = refl
      or-true false = refl

      or-false : (a : Bool) → (a || false) ≡ a
      or-false true = refl
      or-false false = refl

      by : (b : Bool) → (l == p) ≡ b → (w.pass p).reg.flag ≡ (w.node p).shuffler → ((w.pass p).reg.flag || b) ≡ (nodes p).shuffler
      by true e h = let same : p ≡ l = grind (arith, nat_tests, e) in or-true (w.pass p).reg.flag ∙ sym (subst (λ z. (nodes z).shuffler ≡ true) (sym same) (ap (λ (z : NodeState). z.shuffler) (Chain.updated-same w.node l flag)))
      by false e h = let other : p ≢ l = (λ i. grind (arith, nat_tests, e, i)) in or-false (w.pass p).reg.flag ∙ (h ∙ ap (λ (z : NodeState). z.shuffler) (sym (Chain.updated-else w.node l p flag other)))
