-- The order after Swap: a pass joins the empty line, or stands behind its end.
use Rattle.std.proofs.Common.{◌≡◌, ◌≢◌, ℕ, zero, suc, ◌+◌, ◌<◌, List, [], ◌∷◌, ◌++◌, true, false, cond, ◌==◌, ◌||◌, refl, sym, ap, ◌∙◌, subst, arith}
use Rattle.std.specs.Prelude.{None}
use Rattle.std.proofs.lemmas.Bool.Decides.{nat_tests}
use Rattle.shfl_line.specs.Line.{Line, mark_of, active_shuffler}
use Rattle.shfl_line.specs.Words.{link_word}
use Rattle.shfl_core.specs.declared.phase.Phase.TheVariants.{Swap, Close, Link, Ready}
use Rattle.shfl_line.specs.Passes.{updated, times, first, end}
use Rattle.shfl_core.specs.declared.phase.PassState.{PassState}
use Rattle.shfl_core.specs.declared.phase.Nap.TheVariants.{Awake}
use Rattle.shfl_core.specs.Phases.{attr_to_pick, is_round, is_queued, is_fore, is_linking}
use Rattle.shfl_core.specs.View.{View}
use Rattle.shfl_core.specs.Order.{Order as Ordered, Round, Follows, Clean, is_head}
use Rattle.shfl_core.specs.Grouping.{Grouping}
use Rattle.shfl_laws.proofs.rows.Rows.{on, row_swap}
use Rattle.shfl_line.proofs.Chain
use Rattle.shfl_laws.proofs.rows.Order

abbrev pub joined : Line → ℕ → Line
joined s p = record s { line = s.line ++ p ∷ [] }

-- the hand is empty where the line is
pub no-hand : (limit : ℕ) (w : View) (s : Line) (g : ℕ) → Ordered w s g → Grouping limit w s → s.line ≡ [] → s.hand ≡ None
no-hand limit w s g o k e = by_walker (active_shuffler s.role) refl
  where
    by_walker : (n : ℕ) → active_shuffler s.role ≡ n → s.hand ≡ None
    by_walker zero z = o.still z
    by_walker (suc q) z = absurd (let t = k.walker q z in let a = o.stands q in let h = k.hand q in
        let n : times q s.line ≡ 0 = ap (times q) e in let u : is_queued (w.pass q) ≡ true = grind (arith, t.0) in grind (arith, nat_tests))

module _ (limit : ℕ) (w : View) (s : Line) (g p : ℕ) (o : Ordered w s g) (k : Grouping limit w s) (f : (w.pass p).phase ≡ Swap) where
  away : is_queued (w.pass p) ≡ false
  away = grind (arith, f)

  out : (times p s.line ≡ 0) × (link_word s.hand ≢ suc p)
  out = let a = o.stands p in let b = away in (grind (arith, nat_tests), λ h. grind (arith, nat_tests))

  others : (q : ℕ) → 0 < times q s.line → q ≢ p
  others q m e = let z = out.0 in let l0 : 0 < times p s.line = subst (λ v. 0 < times v s.line) e m in omega arith

  awake-off : is_head w p ≡ false
  awake-off = let i = (o.clean p).init f in grind (arith, f, i.2)

  -- what both ways of joining share
  module _ (v : PassState) (queued : is_queued v ≡ true) (calm : (v.phase ≢ Ready) × (v.phase ≢ Swap) × (is_round v.phase ≡ false)) where
    join-stands : (q : ℕ) → times q (s.line ++ p ∷ []) + cond (link_word s.hand == suc q) 1 0 ≡ cond (is_queued (updated w.pass p v q)) 1 0
    join-stands = Chain.updated-all (λ q t. times q (s.line ++ p ∷ []) + cond (link_word s.hand == suc q) 1 0 ≡ cond (is_queued t) 1 0) w.pass p v
        (let t = Chain.times-push p p s.line in let a = out in grind (arith, nat_tests))
        (λ q n. let t = Chain.times-push q p s.line in let a = o.stands q in grind (arith, nat_tests))

    join-clean : (q : ℕ) → Clean (record w { tail = suc p; pass = updated w.pass p v }) q
    join-clean q = record {
      next = Chain.updated-all (λ q t. is_queued t ≡ false → w.next q ≡ 0) w.pass p v (λ e. absurd (grind arith)) (λ q n. (o.clean q).next) q;
      init = Chain.updated-all (λ q t. t.phase ≡ Swap → ((w.node q).batch ≡ 0) × ((w.node q).shuffler ≡ false) × ((w.node q).ready ≡ false) × (t.reg.batch ≡ 0) × (t.reg.flag ≡ false)) w.pass p v
          (λ e. absurd (calm.1 e)) (λ q n. (o.clean q).init) q;
    }

    cand-in : (q : ℕ) → Round w.next (mark_of s) w.tail s.line (link_word s.hand) (w.pass q) → attr_to_pick (w.pass q).phase ≡ true → 0 < times (w.pass q).reg.cand s.line
    cand-in q r a = let t = Order.scene w s g (w.pass q).reg.prev o r.prev_in in
        let i = Order.succ-in w t.0 t.1 (w.pass q).reg.prev (w.pass q).reg.cand t.2.walks t.2.stop (subst (λ l. 0 < times (w.pass q).reg.prev l) t.2.line r.prev_in) (r.cand_next (grind (arith, a))) in
        subst (λ l. 0 < times (w.pass q).reg.cand l) (sym t.2.line) (let j = i.0 in grind arith)

    join-round : (q : ℕ) → is_round (updated w.pass p v q).phase ≡ true → Round w.next (mark_of s) (suc p) (s.line ++ p ∷ []) (link_word s.hand) (updated w.pass p v q)
    join-round = Chain.updated-all (λ q t. is_round t.phase ≡ true → Round w.next (mark_of s) (suc p) (s.line ++ p ∷ []) (link_word s.hand) t) w.pass p v (λ e. absurd (let n = calm.2 in grind arith))
        (λ q n e. let r = o.round q e in record {
          prev_in = (let t = Chain.times-push (w.pass q).reg.prev p s.line in let i = r.prev_in in omega arith);
          prev_free = r.prev_free;
          cand_next = r.cand_next;
          cand_inner = λ a h. others (w.pass q).reg.cand (cand-in q r a) (omega arith);
          first_next = r.first_next;
          first_cand = r.first_cand;
          apart = r.apart;
          after_next = r.after_next;
          gap = r.gap;
          aimed = r.aimed;
          hand_is = r.hand_is;
          marking = r.marking;
        })

    join-links : (q : ℕ) → is_linking (updated w.pass p v q).phase ≡ true → 0 < times q (s.line ++ p ∷ [])
    join-links = Chain.updated-all (λ q t. is_linking t.phase ≡ true → 0 < times q (s.line ++ p ∷ [])) w.pass p v (λ e. let t = Chain.times-push p p s.line in grind (arith, nat_tests)) (λ q n e. let t = Chain.times-push q p s.line in let i = o.links q e in omega arith)

  -- into the empty line
  pub first-order : w.tail ≡ 0 → s.line ≡ [] → Ordered (row_swap w p) (joined s p) g
  first-order z e =
      let g0 : g ≡ 0 = no-giver g refl in
      let none : (q : ℕ) → is_queued (w.pass q) ≡ false = λ q. (let a = o.stands q in let t : times q s.line ≡ 0 = ap (times q) e in let h : link_word s.hand ≡ 0 = ap link_word (no-hand limit w s g o k e) in grind (arith, nat_tests)) in rw z (record {
        walks = rw e (tt, (o.clean p).next away, refl);
        fronted = rw e (record {
          who = Chain.updated-all (λ q t. t.phase ≡ Ready → g ≡ suc q) w.pass p (on (w.pass p) Close) (λ h. absurd (grind arith)) (λ q n. o.fronted.who q);
          is = λ q h. absurd (omega arith);
          only = Chain.updated-all (λ q t. is_queued t ≡ true → (is_fore t || (w.node q).ready) ≡ true → (suc p ≡ suc q) × (g ≡ 0)) w.pass p (on (w.pass p) Close) (λ _ _. (refl, g0)) (λ q n h. absurd (let m = none q in grind arith));
          front = Chain.updated-all (λ q t. g ≡ 0 → suc p ≡ suc q → (is_fore t || (w.node q).ready) ≡ true) w.pass p (on (w.pass p) Close) (λ _ _. refl) (λ q n _ h. absurd (n (omega arith)));
          heir = λ q h. absurd (omega arith);
          linking = Chain.updated-all (λ q t. is_linking t.phase ≡ true → (w.node q).ready ≡ false) w.pass p (on (w.pass p) Close) (λ h. absurd (grind arith)) (λ q n. o.fronted.linking q);
        });
        stands = join-stands (on (w.pass p) Close) refl ((λ h. grind arith), (λ h. grind arith), refl);
        clean = join-clean (on (w.pass p) Close) refl ((λ h. grind arith), (λ h. grind arith), refl);
        links = join-links (on (w.pass p) Close) refl ((λ h. grind arith), (λ h. grind arith), refl);
        round = join-round (on (w.pass p) Close) refl ((λ h. grind arith), (λ h. grind arith), refl);
        still = o.still;
      })
    where
      no-giver : (n : ℕ) → g ≡ n → g ≡ 0
      no-giver zero h = h
      no-giver (suc q) h = absurd (let t = o.fronted.heir q h in let l : first s.line ≡ 0 = ap first e in omega arith)

  abbrev late : ℕ → PassState
  late b = record { phase = Link; reg = record (w.pass p).reg { before = b }; nap = Awake }

  -- behind the line's end
  pub behind-order : (b x : ℕ) (xs : List ℕ) → w.tail ≡ suc b → Order.Scene w s x xs → Ordered (row_swap w p) (joined s p) g
  behind-order b x xs z v =
      let end_b : end x xs ≡ b = (let t = v.tail in omega arith) in
      let calm : ((late b).phase ≢ Ready) × ((late b).phase ≢ Swap) × (is_round (late b).phase ≡ false) = ((λ h. grind arith), (λ h. grind arith), refl) in
      let in_line : (q : ℕ) → 0 < times q (x ∷ xs) → q ≢ p = λ q m. others q (subst (λ l. 0 < times q l) (sym v.line) m) in rw z (record {
        walks = rw v.line (
          Chain.chain-push (Follows (record w { tail = suc p; pass = updated w.pass p (late b) })) x p xs
              (Chain.chain-map (Follows w) (Follows (record w { tail = suc p; pass = updated w.pass p (late b) })) x xs (λ a c _ n h. keep a c (λ e. in_line c (grind (arith, n)) e) h) v.walks)
              (record { word = v.stop ∙ rw (Chain.updated-same w.pass p (late b)) refl; late = λ _. rw (Chain.updated-same w.pass p (late b)) (sym end_b) }),
          rw (Chain.end-push x p xs) ((o.clean p).next away),
          rw (Chain.end-push x p xs) refl,
        );
        fronted = rw v.line (record {
          who = Chain.updated-all (λ q t. t.phase ≡ Ready → g ≡ suc q) w.pass p (late b) (λ h. absurd (grind arith)) (λ q n. o.fronted.who q);
          is = Chain.updated-all (λ q t. g ≡ suc q → t.phase ≡ Ready) w.pass p (late b) (λ h. absurd (let r = o.fronted.is p h in grind (arith, f))) (λ q n. o.fronted.is q);
          only = Chain.updated-all (λ q t. is_queued t ≡ true → (is_fore t || (w.node q).ready) ≡ true → (suc x ≡ suc q) × (g ≡ 0)) w.pass p (late b)
              (λ _ h. absurd (let i = (o.clean p).init f in let r = i.2 in grind arith)) (λ q n e h. let t = o.fronted.only q e h in (sym (ap first v.line) ∙ t.0, t.1));
          front = Chain.updated-all (λ q t. g ≡ 0 → suc x ≡ suc q → (is_fore t || (w.node q).ready) ≡ true) w.pass p (late b)
              (λ _ h. absurd (in_line x (Chain.here x xs) (omega arith))) (λ q n e h. o.fronted.front q e (ap first v.line ∙ h));
          heir = λ q h. let r = o.fronted.is q h in let t = o.fronted.heir q h in
              let n : q ≢ p = λ e. (let u : (w.pass q).phase ≡ Swap = subst (λ y. (w.pass y).phase ≡ Swap) (sym e) f in grind arith) in
              let m : (w.pass q).reg.heir ≢ p = λ e. in_line x (Chain.here x xs) (let l : suc x ≡ first s.line = sym (ap first v.line) in omega arith) in
              rw (Chain.updated-else w.pass p q (late b) n, Chain.updated-else w.pass p (w.pass q).reg.heir (late b) m) (sym (ap first v.line) ∙ t.0, t.1);
          linking = Chain.updated-all (λ q t. is_linking t.phase ≡ true → (w.node q).ready ≡ false) w.pass p (late b) (λ h. (let i = (o.clean p).init f in i.2)) (λ q n. o.fronted.linking q);
        });
        stands = join-stands (late b) refl calm;
        clean = join-clean (late b) refl calm;
        links = join-links (late b) refl calm;
        round = join-round (late b) refl calm;
        still = o.still;
      })
    where
      keep : (a c : ℕ) → c ≢ p → Follows w a c → Follows (record w { tail = suc p; pass = updated w.pass p (late b) }) a c
      keep a c n h = record {
        word = h.word ∙ rw (Chain.updated-else w.pass p c (late b) n) refl;
        late = rw (Chain.updated-else w.pass p c (late b) n) h.late;
      }
