-- The order after Mark, and where the round goes on from there.
use Rattle.std.proofs.Common.{◌≡◌, ◌≢◌, ℕ, suc, ◌+◌, ◌<◌, ◌⊎◌, ◌==◌, Bool, true, false, cond, List, refl, sym, ap, ◌∙◌, inl, inr, subst, arith}
use Rattle.std.specs.Prelude.{nat_lt, slice_index}
use Rattle.std.proofs.lemmas.Bool.Decides.{nat_tests}
use Rattle.shfl_line.specs.declared.words.NodeState.{NodeState}
use Rattle.shfl_line.specs.Line.{Line, mark_of}
use Rattle.shfl_line.specs.Words.{link_word}
use Rattle.shfl_line.specs.Passes.{updated, times}
use Rattle.shfl_line.proofs.Chain
use Rattle.shfl_core.specs.declared.phase.Phase.{Phase}
use Rattle.shfl_core.specs.declared.phase.Phase.TheVariants.{Next, Give, Mark, Swap, Ready}
use Rattle.shfl_core.specs.declared.phase.Nap.{Nap}
use Rattle.shfl_core.specs.declared.phase.PassState.{PassState}
use Rattle.shfl_core.specs.Phases.{is_round, is_queued, is_fore, is_linking, has_hand}
use Rattle.shfl_core.specs.View.{View}
use Rattle.shfl_core.specs.Order.{Order as Ordered, Round}
use Rattle.shfl_core.specs.Grouping.{Grouping}
use Rattle.shfl_laws.proofs.rows.Order
use Rattle.shfl_laws.proofs.rows.Quiet.{Quiet, moved, quiet-order}
use Rattle.shfl_laws.proofs.rows.RoundApart.{at-next, at-give}
use Rattle.shfl_laws.proofs.rows.Rows.{marked}

-- the marks change, and the one pass in a round has what it must have
pub order-remark : (w : View) (s : Line) (g : ℕ) (mark : List ℕ) → Ordered w s g → ((q : ℕ) → is_round (w.pass q).phase ≡ true → Round w.next (slice_index mark) w.tail s.line (link_word s.hand) (w.pass q)) → Ordered w (record s { mark = mark }) g
order-remark w s g mark o round = record { walks = o.walks; fronted = o.fronted; stands = o.stands; clean = o.clean; links = o.links; round = round; still = o.still }

module _ (limit : ℕ) (w : View) (s : Line) (g p : ℕ) (o : Ordered w s g) (k : Grouping limit w s) (f : (w.pass p).phase ≡ Mark) (nap : Nap) (spin : Bool) (inside : 0 < times (w.pass p).reg.cand s.line) where
  abbrev c : ℕ
  c = (w.pass p).reg.cand

  abbrev new : NodeState
  new = record (w.node c) { batch = (w.pass p).reg.count + 1; spin = spin }

  abbrev v : PassState
  v = marked limit (w.pass p) nap

  rp : is_round (w.pass p).phase ≡ true
  rp = ap is_round f

  abbrev more : Bool
  more = nat_lt ((w.pass p).reg.count + 1) limit

  -- the pass goes to Next or to Give
  record Goes (x : Phase) : Type 0 where
    round : is_round x ≡ true
    queued : (headed : Bool) → (q : PassState) → q.phase ≡ x → (is_queued q ≡ true) × (is_fore q ≡ q.reg.headed)
    link : is_linking x ≡ false
    ready : x ≢ Ready
    swap : x ≢ Swap
    hand : has_hand x ≡ false
    mark : x ≢ Mark

  goes : (b : Bool) → Goes (cond b Next Give)
  goes true = record { round = refl; queued = λ h q e. (grind (arith, e), grind (arith, e)); link = refl; ready = λ i. grind arith; swap = λ i. grind arith; hand = refl; mark = λ i. grind arith }
  goes false = record { round = refl; queued = λ h q e. (grind (arith, e), grind (arith, e)); link = refl; ready = λ i. grind arith; swap = λ i. grind arith; hand = refl; mark = λ i. grind arith }

  pub still-round : is_round v.phase ≡ true
  still-round = (goes more).round

  pub quiet : Quiet (w.pass p) v
  quiet = let t = goes more in let u = t.queued true v refl in record { queued = u.0 ∙ sym (grind (arith, f)); fore = u.1 ∙ sym (grind (arith, f)); no_link = (grind (arith, f), t.link); no_ready = (λ i. grind (arith, f, i), t.ready); no_swap = t.swap }

  abbrev prev' : ℕ
  prev' = cond ((w.pass p).reg.prev == (w.pass p).reg.last) c (w.pass p).reg.prev

  -- what the round says of the order afterwards, for marks that leave who had none but the candidate
  round-for : (m : ℕ → ℕ) → ((q : ℕ) → q ≢ c → mark_of s q ≡ 0 → m q ≡ 0) → Round w.next m w.tail s.line (link_word s.hand) v
  round-for m low = let r = o.round p rp in let t = r.marking f in by more refl ((w.pass p).reg.prev == (w.pass p).reg.last) refl r t
    where
      free : (w.pass p).reg.prev ≢ (w.pass p).reg.last → ((w.pass p).reg.prev ≡ (w.pass p).reg.last) ⊎ (mark_of s (w.pass p).reg.prev ≡ 0) → mark_of s (w.pass p).reg.prev ≡ 0
      free d h = grind (arith, d, h)

      by : (b : Bool) → more ≡ b → (e : Bool) → ((w.pass p).reg.prev == (w.pass p).reg.last) ≡ e → Round w.next (mark_of s) w.tail s.line (link_word s.hand) (w.pass p)
          → (w.next (w.pass p).reg.last ≡ suc c) × (mark_of s c ≡ 0) × ((w.pass p).reg.prev ≢ (w.pass p).reg.last → (w.next c ≡ suc (w.pass p).reg.first) × ((w.pass p).reg.prev ≢ c))
          → Round w.next m w.tail s.line (link_word s.hand) (record { phase = cond b Next Give; reg = record (w.pass p).reg { prev = cond e c (w.pass p).reg.prev; last = c; count = (w.pass p).reg.count + 1 }; nap = nap })
      by true _ true i r t = at-next w.next m w.tail s.line (link_word s.hand) (record (w.pass p).reg { prev = c; last = c; count = (w.pass p).reg.count + 1 }) nap inside (inl refl) (r.hand_is ∙ (λ j. cond (ap has_hand f j) (suc c) 0)) (λ d. absurd (d refl))
      by true _ false i r t = let other : (w.pass p).reg.prev ≢ (w.pass p).reg.last = (λ j. grind (arith, nat_tests, i, j)) in let u = t.2 other in
          at-next w.next m w.tail s.line (link_word s.hand) (record (w.pass p).reg { prev = (w.pass p).reg.prev; last = c; count = (w.pass p).reg.count + 1 }) nap r.prev_in (inr (low (w.pass p).reg.prev u.1 (free other r.prev_free))) (r.hand_is ∙ (λ j. cond (ap has_hand f j) (suc c) 0)) (λ d. u.0)
      by false _ true i r t = at-give w.next m w.tail s.line (link_word s.hand) (record (w.pass p).reg { prev = c; last = c; count = (w.pass p).reg.count + 1 }) nap inside (inl refl) (r.hand_is ∙ (λ j. cond (ap has_hand f j) (suc c) 0))
      by false _ false i r t = let other : (w.pass p).reg.prev ≢ (w.pass p).reg.last = (λ j. grind (arith, nat_tests, i, j)) in let u = t.2 other in
          at-give w.next m w.tail s.line (link_word s.hand) (record (w.pass p).reg { prev = (w.pass p).reg.prev; last = c; count = (w.pass p).reg.count + 1 }) nap r.prev_in (inr (low (w.pass p).reg.prev u.1 (free other r.prev_free))) (r.hand_is ∙ (λ j. cond (ap has_hand f j) (suc c) 0))

  pub mark-order : (mark : List ℕ) → ((q : ℕ) → q ≢ c → slice_index mark q ≡ mark_of s q) → Ordered (moved w w.held w.closed w.readers (updated w.node c new) p v) (record s { mark = mark }) g
  mark-order mark same = order-remark (moved w w.held w.closed w.readers (updated w.node c new) p v) s g mark
      (quiet-order w s g w.held w.closed w.readers (updated w.node c new) p v o quiet (Chain.updated-all (λ q z. z.ready ≡ (w.node q).ready) w.node c new refl (λ q n. refl)) s.hold s.role o.still
      (λ _. round-for (mark_of s) (λ q n e. e))
      (λ q e. Chain.updated-else w.node c q new (λ i. (let u = Order.queued-in w s c o.stands inside in let x : (w.pass c).phase ≡ Swap = subst (λ z. (w.pass z).phase ≡ Swap) i e in grind (arith, x, u)))))
      (Chain.updated-all (λ q t. is_round t.phase ≡ true → Round w.next (slice_index mark) w.tail s.line (link_word s.hand) t) w.pass p v (λ _. round-for (slice_index mark) (λ q n e. same q n ∙ e)) (λ q n e. absurd (n (Order.alone limit w s p q k rp e))))
