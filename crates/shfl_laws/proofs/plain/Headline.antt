-- Every lawful world is what the plain words of the headline say.
use Rattle.std.proofs.Common.{◌≡◌, ◌≢◌, ℕ, zero, suc, ◌+◌, ◌<◌, ◌≤◌, List, [], ◌∷◌, Bool, true, false, cond, ◌==◌, ◌||◌, refl, sym, ap, ◌∙◌, inl, inr, subst, arith}
use Rattle.std.specs.Prelude.{Option, Some, None}
use Rattle.std.proofs.lemmas.Bool.Decides.{nat_tests}
use Rattle.shfl_line.specs.declared.events.Role.{Role}
use Rattle.shfl_line.specs.declared.events.Role.TheVariants.{Nobody, Walk, Rest}
use Rattle.shfl_line.specs.Line.{idle_shuffler, Line, mark_of, active_shuffler}
use Rattle.shfl_line.specs.Words.{link_word}
use Rattle.shfl_line.specs.Passes.{times, first, EachPair, MarkedFirst, end, follower_after}
use Rattle.shfl_line.proofs.Chain
use Rattle.shfl_core.specs.declared.phase.Phase.{Phase}
use Rattle.shfl_core.specs.declared.phase.Phase.TheVariants.{Link, Ready}
use Rattle.shfl_core.specs.declared.phase.PassState.{PassState}
use Rattle.shfl_core.specs.Phases.{is_queued, is_fore, is_round, is_linking, has_hand}
use Rattle.shfl_core.specs.Worlds.{World, known}
use Rattle.shfl_core.specs.View.{view}
use Rattle.shfl_core.specs.Order.{Order as Ordered, Follows, Walks, is_head}
use Rattle.shfl_core.specs.Grouping.{Grouping}
use Rattle.shfl_core.specs.Lawful.{Terms, Lawful}
use Rattle.shfl_laws.specs.Headline.{IsSuccessor, HasNoSuccessor, IsHead, Named, Active, Called, IsWaitLine, IsQueued, StandsOnce, Shuffles, batch, Headline}
use Rattle.shfl_laws.proofs.rows.Order
use Rattle.shfl_laws.proofs.rows.Leave
use Rattle.shfl_laws.proofs.plain.HoldersPlain.{holders, writer-in-word, word-has-writer, reader-in-word}

pub link-is : (f : Phase) → is_linking f ≡ true → f ≡ Link
link-is f h = grind arith

pub fore-queued : (q : PassState) → is_fore q ≡ true → is_queued q ≡ true
fore-queued q h = grind arith

pub hand-round : (f : Phase) → has_hand f ≡ true → is_round f ≡ true
hand-round f h = grind arith

roles-apart : (r : Role) (p q : ℕ) → active_shuffler r ≡ suc p → idle_shuffler r ≡ suc q → ⊥
roles-apart Nobody p q a b = omega arith
roles-apart (Walk x) p q a b = omega arith
roles-apart (Rest x) p q a b = omega arith

module _ (t : Terms) (w : World) (ok : Lawful t w) where
  abbrev s : Line
  s = ok.shown

  abbrev pass : ℕ → PassState
  pass q = known w.passes q

  o : Ordered (view w) s ok.giver
  o = ok.agrees.order

  k : Grouping t.rules.limit (view w) s
  k = ok.agrees.grouping

  -- where one is about to be made ready, it alone is the head
  head-line : (a : ℕ) → IsHead w a → first s.line ≡ suc a
  head-line a (Named p f e) = (o.fronted.heir p (o.fronted.who p f)).0 ∙ ap suc e
  head-line a (Active nobody h) = (o.fronted.only a (fore-queued (pass a) h) (ap (λ b. b || ((view w).node a).ready) h)).0
  head-line a (Called nobody none q r) = (o.fronted.only a q (by (is_fore (pass a)) r)).0
    where
      by : (b : Bool) → ((view w).node a).ready ≡ true → (b || ((view w).node a).ready) ≡ true
      by true e = refl
      by false e = e

  pub first-head : (x : ℕ) → first s.line ≡ suc x → IsHead w x
  first-head x e = by ok.giver refl
    where
      by : (g : ℕ) → ok.giver ≡ g → IsHead w x
      by (suc r) z = Named r (o.fronted.is r z) (let h = (o.fronted.heir r z).0 in omega arith)
      by zero z = let nobody : (p : ℕ) → (pass p).phase ≢ Ready = (λ p f. (let h = o.fronted.who p f in omega arith)) in
          let up = o.fronted.front x z e in ahead nobody (is_fore (pass x)) refl up
        where
          fore-none : is_fore (pass x) ≡ false → (p : ℕ) → is_fore (pass p) ≡ false
          fore-none f p = none (is_fore (pass p)) refl
            where
              none : (b : Bool) → is_fore (pass p) ≡ b → b ≡ false
              none false i = refl
              none true i = absurd (let h = (o.fronted.only p (fore-queued (pass p) i) (ap (λ b. b || ((view w).node p).ready) i)).0 in
                  let j : p ≡ x = (omega arith) in let l : is_fore (pass x) ≡ true = subst (λ y. is_fore (pass y) ≡ true) j i in cc)

          ahead : ((p : ℕ) → (pass p).phase ≢ Ready) → (b : Bool) → is_fore (pass x) ≡ b → is_head (view w) x ≡ true → IsHead w x
          ahead nobody true f up = Active nobody f
          ahead nobody false f up = Called nobody (fore-none f) (Order.queued-in (view w) s x o.stands (in-line s.line e)) (sym (ap (λ b. b || ((view w).node x).ready) f) ∙ up)
            where
              in-line : (l : List ℕ) → first l ≡ suc x → 0 < times x l
              in-line [] h = absurd (omega arith)
              in-line (y ∷ ys) h = let j : y ≡ x = (omega arith) in subst (λ z. 0 < times z (y ∷ ys)) j (Chain.here y ys)

  successor : (a b : ℕ) → Follows (view w) a b → IsSuccessor w a b
  successor a b f = by (is_linking (pass b).phase) refl f.word
    where
      by : (l : Bool) → is_linking (pass b).phase ≡ l → (view w).next a ≡ cond l 0 (suc b) → IsSuccessor w a b
      by true e h = inr (h, record { links = link-is (pass b).phase e; before = f.late e })
      by false e h = inl h

  no-successor : (x : ℕ) (xs : List ℕ) → s.line ≡ x ∷ xs → HasNoSuccessor w (end x xs)
  no-successor x xs e = let v = Order.scene-at (view w) s ok.giver x xs o e in record {
    word = v.stop;
    links = λ b l. let u = (Leave.late-facts t.rules.limit (view w) s ok.giver b x xs o k l.links v).0 in
        let i : follower_after (end x xs) x xs ≡ suc b = subst (λ z. follower_after z x xs ≡ suc b) l.before u in let j = Chain.follower-end x xs v.once in omega arith;
  }

  queue-line : (l : List ℕ) → s.line ≡ l → IsWaitLine w l
  queue-line [] e = (subst (Walks (view w)) e o.walks, λ a h. (let z = head-line a h in let y = ap first e in omega arith))
  queue-line (x ∷ xs) e = let v = Order.scene-at (view w) s ok.giver x xs o e in let f = ap first e in (
    first-head x f,
    (λ a h. (let z = head-line a h in omega arith)),
    Chain.chain-map (Follows (view w)) (IsSuccessor w) x xs (λ a b _ _ r. successor a b r) v.walks,
    v.tail,
    no-successor x xs e,
  )

  hand-some : (h : Option ℕ) (c : ℕ) → link_word h ≡ suc c → h ≡ Some c
  hand-some None c e = absurd (omega arith)
  hand-some (Some d) c e = ap Some (omega arith)

  some-hand : (h : Option ℕ) (c : ℕ) → h ≡ Some c → link_word h ≡ suc c
  some-hand h c e = ap link_word e

  each : (p : ℕ) → IsQueued w p → StandsOnce s.line s.hand p
  each p q = let a : times p s.line + cond (link_word s.hand == suc p) 1 0 ≡ 1 = o.stands p ∙ ap (λ b. cond b 1 0) q in
      Chain.by_eq (link_word s.hand) (suc p)
      (λ e. inr (grind (arith, nat_tests, a, e), hand-some s.hand p e))
      (λ n. inl (grind (arith, nat_tests, a, n), λ e. n (some-hand s.hand p e)))

  others : (p : ℕ) → ¬ (IsQueued w p) → (times p s.line ≡ 0) × (s.hand ≢ Some p)
  others p n = let f : is_queued (pass p) ≡ false = out (is_queued (pass p)) refl in
      let a : times p s.line + cond (link_word s.hand == suc p) 1 0 ≡ 0 = o.stands p ∙ ap (λ b. cond b 1 0) f in
      (omega arith, λ e. (let h = some-hand s.hand p e in grind (arith, nat_tests, a, h)))
    where
      out : (b : Bool) → is_queued (pass p) ≡ b → b ≡ false
      out true e = absurd (n e)
      out false e = refl

  detaches : (p : ℕ) → has_hand (pass p).phase ≡ true → s.hand ≡ Some (pass p).reg.cand
  detaches p h = let r = o.round p (hand-round (pass p).phase h) in hand-some s.hand (pass p).reg.cand (r.hand_is ∙ ap (λ b. cond b (suc (pass p).reg.cand) 0) h)

  detached-by : (c : ℕ) → s.hand ≡ Some c → (p : ℕ) × Shuffles w p × (has_hand (pass p).phase ≡ true)
  detached-by c e = by (active_shuffler s.role) refl
    where
      by : (n : ℕ) → active_shuffler s.role ≡ n → (p : ℕ) × Shuffles w p × (has_hand (pass p).phase ≡ true)
      by zero a = absurd (let h = some-hand s.hand c e in let g = ap link_word (o.still a) in omega arith)
      by (suc p) a = let u = (k.walker p a).0 in let r = o.round p u in (p, u, has (has_hand (pass p).phase) refl r.hand_is)
        where
          has : (b : Bool) → has_hand (pass p).phase ≡ b → link_word s.hand ≡ cond b (suc (pass p).reg.cand) 0 → b ≡ true
          has true i h = refl
          has false i h = absurd (let j = some-hand s.hand c e in omega arith)

  pub marks : (p : ℕ) → IsQueued w p → mark_of s p ≡ batch w p
  marks p q = k.mark p ∙ ap (λ b. cond b (batch w p) 0) q

  prefix-line : (l : List ℕ) → ((q : ℕ) → 0 < times q l → IsQueued w q) → EachPair (MarkedFirst (mark_of s)) l → EachPair (MarkedFirst (batch w)) l
  prefix-line [] h c = tt
  prefix-line (x ∷ xs) h c = Chain.chain-map (MarkedFirst (mark_of s)) (MarkedFirst (batch w)) x xs
      (λ a b m n r i. subst (λ z. 0 < z) (marks a (h a m)) (r (subst (λ z. 0 < z) (sym (marks b (h b (omega arith)))) i))) c

  pub headline : Headline t.rules.limit w s.line s.hand
  headline = record {
    holders = holders t w ok;
    writer_in_word = writer-in-word t w ok;
    word_has_writer = word-has-writer t w ok;
    reader_in_word = reader-in-word t w ok;
    queue = queue-line s.line refl;
    each = each;
    others = others;
    one_shuffler = λ p q a b. Order.alone t.rules.limit (view w) s q p k b a;
    one_flag = λ p q a b. (let x = k.flagged p a.queued a.flag in let y = k.flagged q b.queued b.flag in omega arith);
    no_flag = λ p q a b. roles-apart s.role p q (k.walks p a) (k.flagged q b.queued b.flag);
    detaches = detaches;
    detached_by = detached-by;
    prefix = prefix-line s.line (λ q m. Order.queued-in (view w) s q o.stands m) k.prefix;
    within = λ p q. subst (λ z. z ≤ t.rules.limit) (marks p q) (k.within p);
    alone = λ c e. let h = some-hand s.hand c e in let q : IsQueued w c = detached-queued c h in sym (marks c q) ∙ k.hand c h;
  }
    where
      detached-queued : (c : ℕ) → link_word s.hand ≡ suc c → IsQueued w c
      detached-queued c h = by (is_queued (pass c)) refl (o.stands c)
        where
          by : (b : Bool) → is_queued (pass c) ≡ b → times c s.line + cond (link_word s.hand == suc c) 1 0 ≡ cond b 1 0 → b ≡ true
          by true e a = refl
          by false e a = absurd (grind (arith, nat_tests, h, a))
