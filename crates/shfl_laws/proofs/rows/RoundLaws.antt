-- What the order asks of a round's registers when the tail word, the attributes and the candidate's next word are read, and at the decision.
use Rattle.std.proofs.Common.{◌≡◌, ◌≢◌, ℕ, zero, suc, ◌+◌, ◌<◌, ◌==◌, Bool, true, false, cond, List, ◌∷◌, refl, sym, ap, ◌∙◌, inr, ⊎_elim, subst, arith}
use Rattle.std.proofs.lemmas.Bool.Decides.{nat_tests}
use Rattle.shfl_line.specs.Line.{Line, mark_of}
use Rattle.shfl_line.specs.Words.{link_word}
use Rattle.shfl_line.specs.Passes.{times, EachPair, MarkedFirst, StopsAt, IsLastMarked}
use Rattle.shfl_line.proofs.Chain
use Rattle.shfl_core.specs.declared.phase.Phase.{Phase}
use Rattle.shfl_core.specs.declared.phase.Phase.TheVariants.{Next, Tail, Attr, Decide, After, Mark, Give}
use Rattle.shfl_core.specs.declared.phase.Nap.TheVariants.{Awake}
use Rattle.shfl_core.specs.declared.phase.PassState.{PassState}
use Rattle.shfl_core.specs.Take.{to, after_found, stops}
use Rattle.shfl_core.specs.Phases.{is_round, tail_to_pick}
use Rattle.shfl_core.specs.View.{View}
use Rattle.shfl_core.specs.Order.{Order as Ordered, Round, Follows}
use Rattle.shfl_core.specs.Grouping.{Grouping}
use Rattle.shfl_laws.proofs.rows.Order
use Rattle.shfl_laws.proofs.rows.Loads.{Rounded, give}
use Rattle.shfl_laws.proofs.rows.RoundApart.{at-next, at-mark}
use Rattle.shfl_laws.proofs.rows.RoundLoads.{Stays}

-- the candidate of a round stands in the line, behind the batch
pub record Candidate (w : View) (s : Line) (q : PassState) : Type 0 where
  pub inside : 0 < times q.reg.cand s.line
  pub unmarked : mark_of s q.reg.cand ≡ 0

-- directly behind the batch's last nobody is marked
behind-last : (w : View) (s : Line) (q : PassState) (x : ℕ) (xs : List ℕ) → Order.Scene w s x xs → EachPair (StopsAt (mark_of s) q.reg.last) s.line → 0 < times q.reg.last (x ∷ xs) → w.next q.reg.last ≡ suc q.reg.cand → mark_of s q.reg.cand ≡ 0
behind-last w s q x xs v stops inside e = let i = Order.succ-in w x xs q.reg.last q.reg.cand v.walks v.stop inside e in
    let b = Chain.chain-before (λ a b. Follows w a b × StopsAt (mark_of s) q.reg.last a b) x xs q.reg.cand v.once
    (Chain.chain-both (Follows w) (StopsAt (mark_of s) q.reg.last) x xs v.walks (subst (λ l. EachPair (StopsAt (mark_of s) q.reg.last) l) v.line stops)) i.0 in
    let f = b.1.0.word in let n = i.1 in let next : w.next b.0 ≡ suc q.reg.cand = grind (arith, f, n) in
    let same : b.0 ≡ q.reg.last = Order.pred-one w x xs b.0 q.reg.last q.reg.cand v.walks v.stop (let u = v.once q.reg.cand in omega arith) (Chain.follower-in b.0 x q.reg.cand xs b.2).0 inside next e in
    b.1.1 same

candidate-at : (limit : ℕ) (w : View) (s : Line) (p x : ℕ) (xs : List ℕ) → Order.Scene w s x xs → Grouping limit w s → Round w.next (mark_of s) w.tail s.line (link_word s.hand) (w.pass p) → tail_to_pick (w.pass p).phase ≡ true → IsLastMarked (mark_of s) s.line (w.pass p).reg.last → Candidate w s (w.pass p)
candidate-at limit w s p x xs v k r tp l = let inside : 0 < times (w.pass p).reg.prev (x ∷ xs) = subst (λ l. 0 < times (w.pass p).reg.prev l) v.line r.prev_in in
    let i = Order.succ-in w x xs (w.pass p).reg.prev (w.pass p).reg.cand v.walks v.stop inside (r.cand_next tp) in record {
      inside = subst (λ l. 0 < times (w.pass p).reg.cand l) (sym v.line) (let a = i.0 in let z : 0 < times (w.pass p).reg.cand (x ∷ xs) = omega arith in z);
      unmarked = ⊎_elim
          (λ e. behind-last w s (w.pass p) x xs v l.stops (subst (λ z. 0 < times z (x ∷ xs)) e inside) (subst (λ z. w.next z ≡ suc (w.pass p).reg.cand) e (r.cand_next tp)))
          (λ e. Order.unmarked-next w (mark_of s) x xs (w.pass p).reg.prev (w.pass p).reg.cand v.walks (subst (λ l. EachPair (MarkedFirst (mark_of s)) l) v.line k.prefix) v.stop inside (r.cand_next tp) e)
          r.prev_free;
    }

pub candidate : (limit : ℕ) (w : View) (s : Line) (g p : ℕ) → Ordered w s g → Grouping limit w s → is_round (w.pass p).phase ≡ true → tail_to_pick (w.pass p).phase ≡ true → Candidate w s (w.pass p)
candidate limit w s g p o k rp tp = let r = o.round p rp in let t = Order.scene w s g (w.pass p).reg.prev o r.prev_in in candidate-at limit w s p t.0 t.1 t.2 k r tp (k.last p rp).0

-- the pass goes on at a phase of its round
pub same-round : (q : PassState) (f g : Phase) → q.phase ≡ f → is_round f ≡ true → is_round g ≡ true → (f ≢ Give) → Stays q (to g q.reg)
same-round q f g e a b c = record { old = ap is_round e ∙ a; new = b; awake = refl; last = refl; count = refl; batch = refl; flag = refl; headed = refl; mode = refl; me = refl; gives = λ i. c (sym e ∙ i) }

pub tail-round : (w : View) (s : Line) (q : PassState) → Rounded w s q → q.phase ≡ Tail → (b : Bool) → (w.tail == q.reg.cand + 1) ≡ b → Rounded w s (to (cond b Give Attr) q.reg)
tail-round w s q r f true e = give w s q r (grind (arith, f))
tail-round w s q r f false e = record {
  prev_in = r.prev_in;
  prev_free = r.prev_free;
  cand_next = λ h. r.cand_next (grind (arith, f));
  cand_inner = λ h i. grind (arith, nat_tests, e, i);
  first_next = λ h m. r.first_next (grind (arith, f)) m;
  first_cand = λ h m. r.first_cand (grind (arith, f)) m;
  apart = λ h. absurd (grind arith);
  after_next = λ h. absurd (grind arith);
  gap = λ h. absurd (grind arith);
  aimed = λ h. absurd (grind arith);
  hand_is = r.hand_is ∙ grind (arith, f);
  marking = λ h. absurd (grind arith);
}

pub attr-round : (w : View) (s : Line) (q : PassState) (n : ℕ) → Rounded w s q → q.phase ≡ Attr → Rounded w s (to Decide (record q.reg { seen = n }))
attr-round w s q n r f = record {
  prev_in = r.prev_in;
  prev_free = r.prev_free;
  cand_next = λ h. r.cand_next (grind (arith, f));
  cand_inner = λ h. r.cand_inner (grind (arith, f));
  first_next = λ h m. r.first_next (grind (arith, f)) m;
  first_cand = λ h m. r.first_cand (grind (arith, f)) m;
  apart = λ h. absurd (grind arith);
  after_next = λ h. absurd (grind arith);
  gap = λ h. absurd (grind arith);
  aimed = λ h. absurd (grind arith);
  hand_is = r.hand_is ∙ grind (arith, f);
  marking = λ h. absurd (grind arith);
}

pub after-round : (w : View) (s : Line) (q : PassState) → Rounded w s q → q.phase ≡ After → (n : ℕ) → w.next q.reg.cand ≡ n → Rounded w s (after_found q.reg n)
after-round w s q r f zero e = give w s q r (grind (arith, f))
after-round w s q r f (suc x) e = record {
  prev_in = r.prev_in;
  prev_free = r.prev_free;
  cand_next = λ h. r.cand_next (grind (arith, f));
  cand_inner = λ h. r.cand_inner (grind (arith, f));
  first_next = λ h m. r.first_next (grind (arith, f)) m;
  first_cand = λ h. absurd (grind arith);
  apart = λ h. r.apart (grind (arith, f));
  after_next = λ h. e;
  gap = λ h. absurd (grind arith);
  aimed = λ h. absurd (grind arith);
  hand_is = r.hand_is ∙ grind (arith, f);
  marking = λ h. absurd (grind arith);
}

-- a candidate that isn't chosen is the pass behind which the round goes on
pub passed-by : (w : View) (s : Line) (q : PassState) → Rounded w s q → Candidate w s q → q.phase ≡ Decide → Rounded w s (to Next (record q.reg { prev = q.reg.cand }))
passed-by w s q r c f = at-next w.next (mark_of s) w.tail s.line (link_word s.hand) (record q.reg { prev = q.reg.cand }) Awake c.inside (inr c.unmarked) (r.hand_is ∙ grind (arith, f)) (λ m. Chain.by_eq q.reg.prev q.reg.last
    (λ e. subst (λ z. w.next z ≡ suc q.reg.cand) e (r.cand_next (grind (arith, f))) ∙ ap suc (r.first_cand (grind (arith, f)) e))
    (λ n. r.first_next (grind (arith, f)) n))

-- a chosen candidate directly behind the batch is marked, any other is moved first
pub chosen : (w : View) (s : Line) (q : PassState) → Rounded w s q → Candidate w s q → q.phase ≡ Decide → (b : Bool) → (q.reg.prev == q.reg.last) ≡ b → Rounded w s (to (cond b Mark After) q.reg)
chosen w s q r c f true e = let same : q.reg.prev ≡ q.reg.last = grind (arith, nat_tests, e) in
    at-mark w.next (mark_of s) w.tail s.line (link_word s.hand) q.reg Awake r.prev_in r.prev_free (r.hand_is ∙ grind (arith, f)) (subst (λ z. w.next z ≡ suc q.reg.cand) same (r.cand_next (grind (arith, f))), c.unmarked, λ n. absurd (n same))
chosen w s q r c f false e = let other : q.reg.prev ≢ q.reg.last = (λ i. grind (arith, nat_tests, e, i)) in record {
  prev_in = r.prev_in;
  prev_free = r.prev_free;
  cand_next = λ h. r.cand_next (grind (arith, f));
  cand_inner = λ h. r.cand_inner (grind (arith, f));
  first_next = λ h m. r.first_next (grind (arith, f)) m;
  first_cand = λ h. absurd (grind arith);
  apart = λ h. other;
  after_next = λ h. absurd (grind arith);
  gap = λ h. absurd (grind arith);
  aimed = λ h. absurd (grind arith);
  hand_is = r.hand_is ∙ grind (arith, f);
  marking = λ h. absurd (grind arith);
}
