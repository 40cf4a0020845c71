-- Each move keeps the rule of the queue.
use Rattle.std.proofs.Common.{◌≡◌, ◌≢◌, ◌⊎◌, ℕ, zero, suc, ◌+◌, ◌<◌, ◌≤◌, true, List, [], ◌∷◌, ◌++◌, length, set, sym, refl, ap, ◌∙◌, subst, inl, inr, ⊎_elim, arith, length-set, length-append, append_assoc, slice_get, Some, None, Option}
use mathlib.Core.Option.{some, some-injective, some-ne-none}
use lib.ListN.{get_elem?}
use Rattle.crossbeam_queue.specs.Fifo.{Pushes, Pops, Forks, Merges, Learns}
use Rattle.crossbeam_queue.proofs.Lists.{at_set, at_snoc}
use Rattle.call_queue.specs.declared.rule.Ticket.{Ticket}
use Rattle.call_queue.specs.declared.rule.Share.{Share}
use Rattle.call_queue.specs.Rule.{weigh, AreNumbered, IsSeated, IsRuled, whole, first_share, with_pushed, with_taken, without_part, one_part, both, spent, Takes, HasTakenAll}
use Rattle.call_queue.proofs.Weights.{weigh-append, total-append, total_set, part_within, alone_total, is_within, one_of-append}

module _ {C : Type 0} where
  same_ticket : (a b : Ticket C) → Some a ≡ Some b → a ≡ b
  same_ticket a b e = let f : Option (Ticket C) → Ticket C = λ o. elim o [ Some x ↦ x | None ↦ a ] in ap f e

  get_between : (ys zs : List (Ticket C)) (p : Ticket C) → slice_get (ys ++ p ∷ zs) (length ys) ≡ Some p
  get_between [] zs p = refl
  get_between (y ∷ ys) zs p = get_between ys zs p

  get-more : (xs : List (Ticket C)) (x : Ticket C) (i : ℕ) (t : Ticket C) → slice_get (xs ++ x ∷ []) i ≡ Some t → (slice_get xs i ≡ Some t) ⊎ ((i ≡ length xs) × (x ≡ t))
  get-more [] x zero t e = inr (refl, same_ticket x t e)
  get-more [] x (suc i) t e = absurd (cc)
  get-more (z ∷ zs) x zero t e = inl e
  get-more (z ∷ zs) x (suc i) t e = ⊎_elim inl (λ p. inr (ap suc p.0, p.1)) (get-more zs x i t e)

  get-still : (xs : List (Ticket C)) (x : Ticket C) (i : ℕ) (t : Ticket C) → slice_get xs i ≡ Some t → slice_get (xs ++ x ∷ []) i ≡ Some t
  get-still [] x i t e = absurd (cc)
  get-still (y ∷ ys) x zero t e = e
  get-still (y ∷ ys) x (suc i) t e = get-still ys x i t e

  -- what holds of the share that was put there, and of the others, holds of each
  each_set : (P : Share C → Type 0) (vs : List (Share C)) (id : ℕ) (w : Share C) → P w → ((seat : ℕ) (u : Share C) → seat ≢ id → get_elem? vs seat ≡ some u → P u)
      → (seat : ℕ) (u : Share C) → get_elem? (set vs id w) seat ≡ some u → P u
  each_set P vs id w mine others seat u e = ⊎_elim (λ p. subst P p.1 mine) (λ p. others seat u p.0 p.1) (at_set vs id seat w u e)

  alone : (seat : ℕ) (u : Share C) → get_elem? (first_share ∷ []) seat ≡ some u → IsSeated [] 0 1 u
  alone zero u e = subst (IsSeated [] 0 1) (some-injective first_share u e) (record { knows = λ _. refl; idle = λ _. refl; alone = λ _. refl; earlier = λ t h. absurd h; placed = λ t h. absurd h })
  alone (suc seat) u e = absurd (some-ne-none u (sym e))

  pub begins : IsRuled {C = C} [] (first_share ∷ [])
  begins = record {
    all = [];
    popped = [];
    in_order = refl;
    numbered = λ i t e. absurd (cc);
    parts = refl;
    once = λ h. refl;
    seated = alone;
  }

  pub pushes : (n id : ℕ) (v : Share C) (x : Ticket C) → v.fills ≡ true → 0 < v.parts → x.at ≡ length v.all → Pushes IsRuled n id v x (λ w. w ≡ with_pushed v x)
  pushes n id v x fills part place items views _ ok at =
      let w = with_pushed v x in let o = ok.seated id v at in let one = o.alone fills in let long = length-set views id w in (
        w,
        record {
          all = ok.all ++ x ∷ [];
          popped = ok.popped;
          in_order = ap (λ l. l ++ x ∷ []) ok.in_order ∙ append_assoc ok.popped items (x ∷ []);
          numbered = λ i t e. ⊎_elim (ok.numbered i t) (λ p. ap (λ (y : Ticket C). y.at) (sym p.1) ∙ (place ∙ (ap length (o.knows part) ∙ sym p.0))) (get-more ok.all x i t e);
          parts = (let s = total_set (λ u. u.parts) views id v w at in let p = ok.parts in omega arith);
          once = λ h. let s = total_set (λ u. weigh h u.taken) views id v w at in let p = ok.once h in omega arith;
          seated = each_set (IsSeated (ok.all ++ x ∷ []) (length ok.popped) (length (set views id w))) views id w
              (record { knows = λ _. ap (λ l. l ++ x ∷ []) (o.knows part); idle = o.idle; alone = λ _. long ∙ one; earlier = o.earlier; placed = λ t h. get-still ok.all x t.at t (o.placed t h) })
              (λ seat u ne e. let a = is_within views seat u e in let b = is_within views id v at in absurd (ne (omega arith)));
        },
        refl,
      )

  pub pops : (id : ℕ) (v : Share C) → 0 < v.parts → Pops IsRuled id v (Takes v)
  pops id v part x items views ok at =
      let w = with_taken v x in let o = ok.seated id v at in let popped' = ok.popped ++ x ∷ [] in
      let here : slice_get ok.all (length ok.popped) ≡ Some x = ap (λ l. slice_get l (length ok.popped)) ok.in_order ∙ get_between ok.popped items x in
      let place : x.at ≡ length ok.popped = ok.numbered (length ok.popped) x here in
      let long : length popped' ≡ length ok.popped + 1 = length-append ok.popped (x ∷ []) in
      let same : length (set views id w) ≡ length views = length-set views id w in (
        w,
        record {
          all = ok.all;
          popped = popped';
          in_order = ok.in_order ∙ sym (append_assoc ok.popped (x ∷ []) items);
          numbered = ok.numbered;
          parts = (let s = total_set (λ u. u.parts) views id v w at in let p = ok.parts in omega arith);
          once = λ h. let s = total_set (λ u. weigh h u.taken) views id v w at in let p = ok.once h in omega (arith, weigh-append h v.taken (x ∷ []), weigh-append h ok.popped (x ∷ []));
          seated = each_set (IsSeated ok.all (length popped') (length (set views id w))) views id w
              (record {
                knows = o.knows;
                idle = λ none. absurd (omega arith);
                alone = λ is. same ∙ o.alone is;
                earlier = λ t h. ⊎_elim
                    (λ old. let e = o.earlier t old in omega arith)
                    (λ new. ⊎_elim (λ (is : t ≡ x). let e : t.at ≡ x.at = ap (λ (y : Ticket C). y.at) is in omega arith) (λ no. absurd no) new)
                    (one_of-append t v.taken (x ∷ []) h);
                placed = λ t h. ⊎_elim
                    (o.placed t)
                    (λ new. ⊎_elim (λ (is : t ≡ x). subst (λ (y : Ticket C). slice_get ok.all y.at ≡ Some y) (sym is) (ap (slice_get ok.all) place ∙ here)) (λ no. absurd no) new)
                    (one_of-append t v.taken (x ∷ []) h);
              })
              (λ seat u ne e. let z = ok.seated seat u e in record { knows = z.knows; idle = z.idle; alone = λ is. same ∙ z.alone is; earlier = λ t h. let b = z.earlier t h in omega arith; placed = z.placed });
        },
        record {
          taken = refl;
          placed = ap (λ l. slice_get l x.at) (o.knows part) ∙ (ap (slice_get ok.all) place ∙ here);
          later = λ t h. let b = o.earlier t h in omega arith;
        },
      )

  pub forks : (id : ℕ) (v : Share C) → 1 < v.parts → Forks IsRuled id v (without_part v) (one_part v)
  forks id v parts items views ok at =
      let l = without_part v in let r = one_part v in let o = ok.seated id v at in let vs = set views id l in
      let knows : v.all ≡ ok.all = o.knows (omega arith) in
      let P = IsSeated ok.all (length ok.popped) (length (vs ++ r ∷ [])) in
      record {
        all = ok.all;
        popped = ok.popped;
        in_order = ok.in_order;
        numbered = ok.numbered;
        parts = (let s = total_set (λ u. u.parts) views id v l at in let p = ok.parts in omega (arith, total-append (λ u. u.parts) vs r));
        once = λ h. let s = total_set (λ u. weigh h u.taken) views id v l at in let p = ok.once h in omega (arith, total-append (λ u. weigh h u.taken) vs r);
        seated = λ seat u e. ⊎_elim
            (λ old. each_set P views id l
            (record { knows = λ _. knows; idle = λ none. absurd (omega arith); alone = λ no. absurd (cc); earlier = o.earlier; placed = o.placed })
            (λ seat' u' ne e'. let z = ok.seated seat' u' e' in record {
              knows = z.knows;
              idle = z.idle;
              alone = λ is. (let a = z.alone is in let b = is_within views seat' u' e' in let c = is_within views id v at in absurd (ne (omega arith)));
              earlier = z.earlier;
              placed = z.placed;
            })
            seat u old)
            (λ (is : r ≡ u). subst P is (record { knows = λ _. knows; idle = λ no. absurd (omega arith); alone = λ no. absurd (cc); earlier = λ t h. absurd h; placed = λ t h. absurd h }))
            (at_snoc vs r u seat e);
      }

  pub merges : (id : ℕ) (v : Share C) (other : ℕ) (w : Share C) → 0 < v.parts → Merges IsRuled id v other w (both v w) spent
  merges id v other w part items views ok at two at' =
      let b = both v w in let vs = set views id b in let vs' = set vs other spent in let o = ok.seated id v at in
      let was : get_elem? views other ≡ some w = ⊎_elim (λ x. absurd (two x.0)) (λ x. x.1) (at_set views id other b w at') in let theirs = ok.seated other w was in
      let long : length vs' ≡ length views = length-set vs other spent ∙ length-set views id b in
      let P = IsSeated ok.all (length ok.popped) (length vs') in
      record {
        all = ok.all;
        popped = ok.popped;
        in_order = ok.in_order;
        numbered = ok.numbered;
        parts = (let s = total_set (λ u. u.parts) views id v b at in let s' = total_set (λ u. u.parts) vs other w spent at' in let p = ok.parts in omega arith);
        once = λ h. let s = total_set (λ u. weigh h u.taken) views id v b at in let s' = total_set (λ u. weigh h u.taken) vs other w spent at' in let p = ok.once h in omega (arith, weigh-append h v.taken w.taken);
        seated = each_set P vs other spent
            (record { knows = λ no. absurd (omega arith); idle = λ _. refl; alone = λ no. absurd (cc); earlier = λ t h. absurd h; placed = λ t h. absurd h })
            (λ seat u ne e. each_set P views id b
            (record { knows = λ _. o.knows part; idle = λ none. absurd (omega arith); alone = λ is. long ∙ o.alone is; earlier = λ t h. ⊎_elim (o.earlier t) (theirs.earlier t) (one_of-append t v.taken w.taken h); placed = λ t h. ⊎_elim (o.placed t) (theirs.placed t) (one_of-append t v.taken w.taken h) })
            (λ seat' u' ne' e'. let z = ok.seated seat' u' e' in record { knows = z.knows; idle = z.idle; alone = λ is. long ∙ z.alone is; earlier = z.earlier; placed = z.placed })
            seat u e);
      }

  pub learns : (id : ℕ) (v : Share C) → whole ≤ v.parts → Learns IsRuled id v (HasTakenAll v)
  learns id v most items views ok at = let o = ok.seated id v at in let knows : v.all ≡ ok.all = o.knows (omega arith) in
      let within = part_within views id v at in let sum = ok.parts in let every : v.parts ≡ 1024 = omega arith in record {
        popped = ok.popped;
        in_order = knows ∙ ok.in_order;
        numbered = subst AreNumbered (sym knows) ok.numbered;
        once = λ h. sym (alone_total (λ u. weigh h u.taken) views id v at every ok.parts (λ seat u e none. ap (weigh h) ((ok.seated seat u e).idle none))) ∙ ok.once h;
        earlier = o.earlier;
        placed = λ t h. ap (λ l. slice_get l t.at) knows ∙ o.placed t h;
      }
