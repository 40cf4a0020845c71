-- The registers' facts in plain words follow from the invariant.
use Rattle.std.proofs.Common.{◌≡◌, ℕ, suc, ◌+◌, ◌<◌, List, [], ◌∷◌, Bool, true, false, cond, ◌==◌, ◌||◌, refl, sym, ap, ◌∙◌, inl, inr, ⊎_elim, subst, arith}
use Rattle.std.specs.Prelude.{Some}
use Rattle.std.proofs.lemmas.Bool.Decides.{nat_tests}
use Rattle.shfl_line.specs.declared.words.NodeState.{NodeState}
use Rattle.shfl_line.specs.Line.{Line, mark_of}
use Rattle.shfl_line.specs.Words.{link_word, IsStateWord, packed_state, state_of}
use Rattle.shfl_line.specs.Passes.{times, first}
use Rattle.shfl_line.proofs.Batches.{last-cong, stands-behind}
use Rattle.shfl_core.specs.declared.phase.Phase.TheVariants.{Swap, Ready}
use Rattle.shfl_core.specs.declared.phase.Nap.{Nap}
use Rattle.shfl_core.specs.declared.phase.Nap.TheVariants.{Awake, Doze, Hear, Rouse, Ring}
use Rattle.shfl_core.specs.declared.phase.PassState.{PassState}
use Rattle.shfl_core.specs.declared.words.Word.TheVariants.{State}
use Rattle.shfl_core.specs.Words.{look}
use Rattle.shfl_core.specs.Phases.{is_queued, is_fore, is_linking}
use Rattle.shfl_core.specs.Worlds.{World, known}
use Rattle.shfl_core.specs.View.{view}
use Rattle.shfl_core.specs.Order.{Order as Ordered, is_head}
use Rattle.shfl_core.specs.Owed.{fits, announces}
use Rattle.shfl_core.specs.Grouping.{Grouping}
use Rattle.shfl_core.specs.Lawful.{Terms, Lawful}
use Rattle.shfl_laws.specs.Headline.{IsHead, IsLinkingTo, Shuffles, batch}
use Rattle.shfl_laws.specs.Facts.{WaitsUncalled, Grants, RoundPlace, Facts}
use Rattle.shfl_laws.proofs.rows.Order
use Rattle.shfl_laws.proofs.rows.Leave
use Rattle.shfl_laws.proofs.plain.Headline.{first-head, marks, fore-queued}
use Rattle.shfl_laws.proofs.laws.NextRows.{batch-last}
use Rattle.shfl_laws.proofs.shown.Shown.{lone}
use Rattle.shfl_laws.proofs.words.StateBits.{read}

not-true : (b : Bool) → (b ≡ true → ⊥) → b ≡ false
not-true true h = absurd (h refl)
not-true false h = refl

swap-awake : (n : Nap) → fits n Swap ≡ true → announces n ≡ false
swap-awake Awake e = refl
swap-awake Doze e = absurd (cc)
swap-awake Hear e = absurd (cc)
swap-awake Rouse e = absurd (cc)
swap-awake (Ring whom) e = refl

-- a state word that says nothing is 0
clear-word : (n : ℕ) → IsStateWord n → state_of n ≡ record { ready = false; shuffler = false; parked = false; spin = false; batch = 0 } → n ≡ 0
clear-word n f e = let r = sym (read n f) ∙ e in
    f.is ∙ ap (λ (s : NodeState). packed_state s.ready s.shuffler s.parked s.spin s.batch) r

module _ (t : Terms) (w : World) (ok : Lawful t w) where
  abbrev s : Line
  s = ok.shown

  abbrev pass : ℕ → PassState
  pass q = known w.passes q

  o : Ordered (view w) s ok.giver
  o = ok.agrees.order

  k : Grouping t.rules.limit (view w) s
  k = ok.agrees.grouping

  cleared : (p : ℕ) → (pass p).phase ≡ Swap → look w.words (State p) ≡ 0
  cleared p f = let i = (o.clean p).init f in let sp = ok.agrees.owed.fresh p f in let n : NodeState = (view w).node p in
      let pk : n.parked ≡ false = ok.agrees.owed.parked p ∙ swap-awake (pass p).nap (sym (ap (fits (pass p).nap) f) ∙ ok.agrees.owed.places p) in
      clear-word (look w.words (State p)) (ok.formed (State p)) (λ j. record { ready = i.2 j; shuffler = i.1 j; parked = pk j; spin = sp j; batch = i.0 j })

  link : (a b : ℕ) → IsLinkingTo w a b → is_linking (pass b).phase ≡ true
  link a b l = ap is_linking l.links

  -- the place in the line of a pass that has yet to write its predecessor's next word
  late-at : (a b : ℕ) → IsLinkingTo w a b → (0 < times a s.line) × ((view w).next a ≡ 0)
  late-at a b l = let v = Order.scene (view w) s ok.giver b o (o.links b (link a b l)) in
      let u = Leave.late-facts t.rules.limit (view w) s ok.giver b v.0 v.1 o k l.links v.2 in
      (subst (λ z. 0 < times z s.line) l.before u.2, subst (λ z. (view w).next z ≡ 0) l.before u.1)

  late-one : (a b c : ℕ) → IsLinkingTo w a b → IsLinkingTo w a c → b ≡ c
  late-one a b c l m = lone t.rules.limit (view w) s ok.giver b c o k (link a b l) (link a c m) (l.before ∙ sym m.before)

  -- a queued pass that isn't counted as the head waits and isn't made ready
  uncalled : (p : ℕ) → is_queued (pass p) ≡ true → (is_head (view w) p ≡ true → ⊥) → WaitsUncalled w p
  uncalled p q h = record {
    waits = record { queued = q; rear = not-true (is_fore (pass p)) (λ e. h (ap (λ b. b || ((view w).node p).ready) e)) };
    ready = not-true ((view w).node p).ready (λ e. h (by (is_fore (pass p)) e));
  }
    where
      by : (b : Bool) → ((view w).node p).ready ≡ true → (b || ((view w).node p).ready) ≡ true
      by true e = refl
      by false e = e

  first-in : (x : ℕ) (l : List ℕ) → first l ≡ suc x → 0 < times x l
  first-in x [] e = absurd (omega arith)
  first-in x (y ∷ ys) e = grind (arith, nat_tests)

  grants : (p : ℕ) → (pass p).phase ≡ Ready → Grants w s p
  grants p f = let g = o.fronted.who p f in let h = o.fronted.heir p g in let x : ℕ = (pass p).reg.heir in record {
    first = h.0;
    uncalled = uncalled x (Order.queued-in (view w) s x o.stands (first-in x s.line h.0)) (λ e. (let u = o.fronted.only x (Order.queued-in (view w) s x o.stands (first-in x s.line h.0)) e in let v = u.1 in omega arith));
    linked = λ e. (let a = ap is_linking e in let b = h.1 in cc);
    headless = λ q. not-true (is_fore (pass q)) (λ e. (let u = o.fronted.only q (fore-queued (pass q) e) (ap (λ b. b || ((view w).node q).ready) e) in let v = u.1 in omega arith));
  }

  rear : (p : ℕ) → 0 < times p s.line → ¬ (IsHead w p) → WaitsUncalled w p
  rear p m n = let q = Order.queued-in (view w) s p o.stands m in uncalled p q (λ e. n (first-head t w ok p (o.fronted.only p q e).0))

  detached : (p : ℕ) → s.hand ≡ Some p → WaitsUncalled w p
  detached p e = let a : link_word s.hand ≡ suc p = ap link_word e in let b = o.stands p in let q = queued (is_queued (pass p)) refl a b in
      uncalled p q (λ i. (let u = (o.fronted.only p q i).0 in let m = first-in p s.line u in let c : times p s.line + cond (link_word s.hand == suc p) 1 0 ≡ 1 = b ∙ ap (λ z. cond z 1 0) q in grind (arith, nat_tests, a, m, c)))
    where
      queued : (z : Bool) → is_queued (pass p) ≡ z → link_word s.hand ≡ suc p → times p s.line + cond (link_word s.hand == suc p) 1 0 ≡ cond z 1 0 → z ≡ true
      queued true i a b = refl
      queued false i a b = absurd (grind (arith, nat_tests, a, b))

  round : (p : ℕ) → Shuffles w p → RoundPlace t.rules.limit w s p
  round p r = let l = k.last p r in let d = o.round p r in let x : ℕ = (pass p).reg.last in let y : ℕ = (pass p).reg.prev in
      let same : (q : ℕ) → 0 < times q s.line → mark_of s q ≡ batch w q = (λ q m. marks t w ok q (Order.queued-in (view w) s q o.stands m)) in
      let b = batch-last t.rules.limit (view w) s ok.giver p o k r in record {
        last = sym (last-cong (mark_of s) (batch w) s.line same) ∙ b;
        count = sym (same x l.0.inside) ∙ l.1;
        room = l.2;
        inside = d.prev_in;
        prev = ⊎_elim (λ e. inl e) (λ e. inr (stands-behind (mark_of s) x y s.line k.prefix b d.prev_in e)) d.prev_free;
      }

  pub facts : Facts t.rules.limit w s
  facts = record {
    unlinked = λ p n. (o.clean p).next (not-true (is_queued (pass p)) n);
    cleared = λ p f. (let i = (o.clean p).init f in (cleared p f, i.3, i.4));
    late = λ a b l. (let u = late-at a b l in (u.0, u.1, o.fronted.linking b (link a b l)));
    late_one = late-one;
    ready_one = λ p q e f. (let a = o.fronted.who p e in let b = o.fronted.who q f in omega arith);
    grants = grants;
    line = rear;
    detached = detached;
    round = round;
  }
