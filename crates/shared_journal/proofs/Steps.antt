-- Each kind of step at the journal's table keeps the rule.
use Rattle.std.proofs.lemmas.List.{get_or_past}
use Rattle.std.proofs.Common.{◌≡◌, ◌≢◌, ◌⊎◌, ℕ, zero, suc, ◌+◌, ◌<◌, ◌≤◌, ◌==◌, not, cond, Bool, true, false, List, [], ◌∷◌, ◌++◌, map, filter, length, sum, get_or-set_same, set, sym, refl, ap, ◌∙◌, subst, inl, inr, ⊎_elim, arith, length-set, append_assoc, append-nil, slice_index, Some, None, Option, eq-eqb, ne_eqb}
use mathlib.Core.Option.{some, some-injective, some-ne-none}
use mathlib.Core.Logic.{dite}
use native.Mathlib.Decide.{ℕ_discrete}
use lib.ListN.{get_elem?}
use prog.Atomic.{either}
use Rattle.atomic_table.specs.Table.{State, opening, keeps, takes, gives, put_back, rest, Allows, Splits, Joins, Final, Seen}
use Rattle.atomic_table.proofs.Lists.{at_set, set_again, set_here, set_else, at_longer}
use Rattle.shared_journal.specs.declared.view.Own.{Own}
use Rattle.shared_journal.specs.declared.view.View.{View}
use Rattle.shared_journal.specs.Entries.{IsAmong, StartsWith, entries_by}
use Rattle.shared_journal.specs.Rule.{IsInTurn, SeatTells, OwnsNumber, both, counted, first_of, first_view, fresh_numbers, only_first, put_play, rest_of, spent, take_play, unnumbered, with_in, with_out, without_first}
use Rattle.shared_journal.specs.Models.{AddsOwn}
use Rattle.shared_journal.proofs.EntryRoom.{entries_by-other, has_room, one_more_fits}

module _ {V : Type 0} where
  each_set : (P : ℕ → V → Type 0) (Q : ℕ → V → Type 0) (vs : List V) (id : ℕ) (w : V) → Q id w → ((seat : ℕ) (u : V) → seat ≢ id → P seat u → Q seat u)
      → ((seat : ℕ) (u : V) → get_elem? vs seat ≡ some u → P seat u) → (seat : ℕ) (u : V) → get_elem? (set vs id w) seat ≡ some u → Q seat u
  each_set P Q vs id w mine others old seat u e = ⊎_elim (λ p. subst (λ (z : ℕ × V). Q z.0 z.1) (λ i. (sym p.0 i, p.1 i)) mine) (λ p. others seat u p.0 (old seat u p.1)) (at_set vs id seat w u e)

  at_end : (l : List V) (a b : V) (j : ℕ) → get_elem? (l ++ a ∷ []) j ≡ some b → (get_elem? l j ≡ some b) ⊎ ((j ≡ length l) × (a ≡ b))
  at_end [] a b zero e = inr (refl, some-injective a b e)
  at_end [] a b (suc j) e = absurd (some-ne-none b (sym e))
  at_end (x ∷ xs) a b zero e = inl e
  at_end (x ∷ xs) a b (suc j) e = ⊎_elim inl (λ p. inr (ap suc p.0, p.1)) (at_end xs a b j e)

  there : (l : List V) (i : ℕ) (a : V) → get_elem? l i ≡ some a → i < length l
  there [] i a e = absurd (some-ne-none a (sym e))
  there (x ∷ xs) zero a e = omega arith
  there (x ∷ xs) (suc i) a e = let h = there xs i a e in omega arith

module _ {A : Type 0} where
  pub among-append : (x : A) (xs ys : List A) → IsAmong x (xs ++ ys) → IsAmong x xs ⊎ IsAmong x ys
  among-append x [] ys h = inr h
  among-append x (y ∷ xs) ys h = ⊎_elim (λ e. inl (inl e)) (λ t. ⊎_elim (λ a. inl (inr a)) inr (among-append x xs ys t)) h

  among-map : (f : A → A) (y : A) (l : List A) → IsAmong y (map f l) → (x : A) × IsAmong x l × (y ≡ f x)
  among-map f y [] h = absurd h
  among-map f y (x ∷ xs) h = ⊎_elim (λ e. (x, inl refl, e)) (λ t. let r = among-map f y xs t in (r.0, inr r.1, r.2)) h

  among-filter : (p : A → Bool) (x : A) (l : List A) → IsAmong x (filter p l) → IsAmong x l × (p x ≡ true)
  among-filter p x [] h = absurd h
  among-filter p x (y ∷ ys) h =
      (elim (p y) as (λ b. p y ≡ b → IsAmong x (cond b (y ∷ filter p ys) (filter p ys)) → IsAmong x (y ∷ ys) × (p x ≡ true)) [
        | true ↦ λ yes k. ⊎_elim (λ is. (inl is, ap p is ∙ yes)) (λ t. let r = among-filter p x ys t in (inr r.0, r.1)) k
        | false ↦ λ _ k. let r = among-filter p x ys k in (inr r.0, r.1)
      ]) refl h

not-same : (a b : ℕ) → not (a == b) ≡ true → a ≢ b
not-same a b h is = let e : not true ≡ true = subst (λ c. not c ≡ true) (eq-eqb a b is) h in absurd (cc)

starts_longer : {E : Type 0} (total l more : List E) → StartsWith total l → StartsWith (total ++ more) l
starts_longer total l more s = (s.0 ++ more, ap (λ x. x ++ more) s.1 ∙ append_assoc l s.0 more)

set_same : (ws : List ℕ) (n : ℕ) → length ws ≡ 1 → n ≡ slice_index ws 0 → set ws 0 n ≡ ws
set_same [] n h is = absurd (omega arith)
set_same (x ∷ xs) n h is = ap (λ m. m ∷ xs) is

module _ {J : Type 0} where
  value_carried : J → List (ℕ × Option J) → J
  value_carried d [] = d
  value_carried d (z ∷ zs) = elim z.1 [ Some x ↦ x | None ↦ d ]

  pub same_carried : (x y : J) (c : List (ℕ × Option J)) → c ≡ (0, Some x) ∷ [] → c ≡ (0, Some y) ∷ [] → x ≡ y
  unfolding value_carried
  same_carried x y c one two = ap (value_carried x) (sym one ∙ two)

  pub first_carried : (d x : Option J) (c r q : List (ℕ × Option J)) → c ≡ (0, d) ∷ r → c ≡ (0, x) ∷ q → d ≡ x
  first_carried d x c r q one two = let f : List (ℕ × Option J) → Option J = λ l. elim l [ [] ↦ d | z ∷ zs ↦ z.1 ] in ap f (sym one ∙ two)

  pub some_value : (a b : J) → Some a ≡ Some b → a ≡ b
  some_value a b e = let f : Option J → J = λ o. elim o [ Some x ↦ x | None ↦ a ] in ap f e

module _ {E : Type 0} where
  fresh-below : (opening : List ℕ) (limit k : ℕ) (allowed : List ℕ) (y : Own E) → IsAmong y (fresh_numbers opening limit k allowed)
      → (i : ℕ) × (y.number ≡ k + i) × (i < length allowed) × (y.allowed ≡ slice_index allowed i) × (y.opening ≡ opening) × (y.limit ≡ limit) × (y.entries ≡ [])
  fresh-below opening limit k [] y h = absurd h
  fresh-below opening limit k (a ∷ more) y h = ⊎_elim
      (λ is. (0, (let e = ap (λ (z : Own E). z.number) is in omega arith), (omega arith), ap (λ (z : Own E). z.allowed) is, ap (λ (z : Own E). z.opening) is, ap (λ (z : Own E). z.limit) is, ap (λ (z : Own E). z.entries) is))
      (λ t. let r = fresh-below opening limit (suc k) more y t in (suc r.0, (let a = r.1 in omega arith), (let b = r.2 in omega arith), r.3, r.4, r.5, r.6))
      h

  apart_out : (v u : View E) → v ≡ u → v.out ≡ false → u.out ≡ true → ⊥
  apart_out v u same inside is_out = let e : false ≡ true = sym inside ∙ (ap (λ (x : View E). x.out) same ∙ is_out) in absurd (cc)

module _ {J E : Type 0} (entries : J → List E) (limit : J → ℕ) (opening_of : J → List ℕ) (legal : List ℕ → List E → Type 0) (worker : E → ℕ) (allowed root : List ℕ) (most : ℕ) where
  abbrev InTurn : State (Option J) (View E) → Type 0
  InTurn = IsInTurn entries limit opening_of legal worker allowed root most

  abbrev Tells : (s : State (Option J) (View E)) → InTurn s → ℕ → View E → Type 0
  Tells s ok = SeatTells worker allowed root most ok.total ok.owner ok.holder (slice_index s.words 0)

  pub takes_out : (slots id : ℕ) (v : View E) (c : List (ℕ × Option J)) (mine : Own E) → IsAmong mine v.own
      → Allows InTurn slots id (v, c) 0 (λ n. either (n == 0) 1 n) (take_play entries limit opening_of legal worker (v, c))
  takes_out slots id v c mine has s ok _ at _ = let n : ℕ = slice_index s.words 0 in let o = ok.seated id v at in let len = ok.one in
      dite (ℕ_discrete n 0)
      (λ hit. let w : View E = with_out v ok.total in let h = ok.home hit in
      let full : slice_index (set s.words 0 (either (n == 0) 1 n)) 0 ≡ 1 = subst (λ b. slice_index (set s.words 0 (either b 1 n)) 0 ≡ 1) (sym (eq-eqb n 0 hit)) (get_or-set_same s.words 0 1 0 (omega arith)) in (
        w,
        takes 0 (Some h.0),
        h.1,
        record {
          total = ok.total;
          owner = ok.owner;
          holder = id;
          one = length-set s.words 0 (either (n == 0) 1 n) ∙ len;
          home = λ z. absurd (omega arith);
          away = λ _. let m = o.own mine has in (mine.number, m.below, m.alone, (w, set_here s.views id w (there s.views id v at), refl));
          within = ok.within;
          room = ok.room;
          lawful = ok.lawful;
          seated = each_set (SeatTells worker allowed root most ok.total ok.owner ok.holder n) (SeatTells worker allowed root most ok.total ok.owner id (slice_index (set s.words 0 (either (n == 0) 1 n)) 0)) s.views id w
              (record { begins = ([], sym (append-nil ok.total)); joined = λ l k. absurd k; own = o.own; out = λ _. (full, refl, refl) })
              (λ seat u _ old. record { begins = old.begins; joined = old.joined; own = old.own; out = λ is. let one = (old.out is).0 in absurd (omega arith) })
              ok.seated;
        },
        (
          (λ _. record {
            journal = h.0;
            carried = refl;
            view = ap (with_out v) (sym h.2);
            knows = record {
              begins = subst (λ t. StartsWith t v.list) (sym h.2) o.begins;
              joined = λ l k. subst (λ t. StartsWith t l) (sym h.2) (o.joined l k);
              own = λ x k. let m = o.own x k in record {
                exactly = m.exactly ∙ ap (entries_by worker x.number) (sym h.2);
                opening_is = h.3 ∙ sym m.opening_is;
                limit_is = h.4 ∙ sym m.limit_is;
                room = λ more. let r = has_room worker ok.total allowed x.number ok.within (subst (λ (z : List E × ℕ). length z.0 < z.1) (λ i. (m.exactly i, m.allowed_is i)) more) in
                    let t = ap length h.2 in let l = h.4 in let big = ok.room in omega arith;
                lawful = subst (λ (z : List ℕ × List E). legal z.0 z.1) (λ i. (sym m.opening_is i, sym h.2 i)) ok.lawful;
              };
            };
          }),
          λ no. absurd (no hit),
        ),
      ))
      (λ miss. let same : set s.words 0 (either (n == 0) 1 n) ≡ s.words = set_same s.words (either (n == 0) 1 n) len (ap (λ b. either b 1 n) (ne_eqb n 0 miss)) in (
        v,
        keeps,
        tt,
        record {
          total = ok.total;
          owner = ok.owner;
          holder = ok.holder;
          one = ap length same ∙ len;
          home = λ z. ok.home (ap (λ ws. slice_index ws 0) (sym same) ∙ z);
          away = λ z. let a = ok.away miss in (a.0, a.1, a.2, (a.3.0, ap (λ vs. get_elem? vs ok.holder) (set_again s.views id v at) ∙ a.3.1, a.3.2));
          within = ok.within;
          room = ok.room;
          lawful = ok.lawful;
          seated = subst (λ (ws : List ℕ). (seat : ℕ) (u : View E) → get_elem? (set s.views id v) seat ≡ some u → SeatTells worker allowed root most ok.total ok.owner ok.holder (slice_index ws 0) seat u) (sym same)
              (each_set (SeatTells worker allowed root most ok.total ok.owner ok.holder n) (SeatTells worker allowed root most ok.total ok.owner ok.holder n) s.views id v o (λ seat u _ old. old) ok.seated);
        },
        ((λ hit. absurd (miss hit)), λ _. refl),
      ))

  pub puts_back : (slots id : ℕ) (v : View E) (c : List (ℕ × Option J)) (x : J) → slots ≡ 1 → c ≡ (0, Some x) ∷ [] → v.out ≡ true → AddsOwn entries limit opening_of legal worker v x
      → Allows InTurn slots id (v, c) 0 (λ _. 0) (λ _. put_play entries worker (v, c))
  puts_back slots id v c x one_slot carried is_out adds s ok deep at _ = let all : List E = entries x in let w : View E = with_in worker v all in let o = ok.seated id v at in let len = ok.one in
      let e = adds.entry in let mine = adds.number in
      let held = o.out is_out in let my = o.own mine adds.among in
      let is : all ≡ ok.total ++ e ∷ [] = adds.grew ∙ ap (λ l. l ++ e ∷ []) held.2 in
      let owned : ok.owner (worker e) ≡ id = ap ok.owner adds.made_by ∙ my.alone in
      let longer : (l : List E) → StartsWith ok.total l → StartsWith all l = λ l z. subst (λ t. StartsWith t l) (sym is) (starts_longer ok.total l (e ∷ []) z) in
      let same_by : (k : ℕ) → worker e ≢ k → entries_by worker k all ≡ entries_by worker k ok.total = λ k ne. ap (entries_by worker k) is ∙ entries_by-other worker k ok.total e ne in
      let more : length (entries_by worker (worker e) ok.total) < slice_index allowed (worker e) =
      subst (λ (z : ℕ × List E × ℕ). length z.1 < z.2) (λ i. (0, (my.exactly ∙ ap (λ k. entries_by worker k ok.total) (sym adds.made_by)) i, (my.allowed_is ∙ ap (slice_index allowed) (sym adds.made_by)) i)) adds.left in
      let word : ℕ = slice_index (set s.words 0 0) 0 in (
        w,
        gives,
        tt,
        record {
          total = all;
          owner = ok.owner;
          holder = ok.holder;
          one = length-set s.words 0 0 ∙ len;
          away = λ no. absurd (no (get_or-set_same s.words 0 0 0 (omega arith)));
          home = λ _. (x, ap (λ cs. get_elem? (put_back s.homes cs) 0) carried ∙ set_here s.homes 0 (some (Some x)) (omega arith), refl, adds.opening_is ∙ my.opening_is, adds.limit_is ∙ my.limit_is);
          within = λ k. subst (λ t. length (entries_by worker k t) ≤ slice_index allowed k) (sym is) (one_more_fits worker ok.total allowed e ok.within more k);
          room = ok.room;
          lawful = subst (λ r. legal r all) my.opening_is adds.lawful;
          seated = each_set (SeatTells worker allowed root most ok.total ok.owner ok.holder (slice_index s.words 0)) (SeatTells worker allowed root most all ok.owner ok.holder word) s.views id w
              (record {
                begins = ([], sym (append-nil all));
                joined = λ l h. longer l (o.joined l h);
                own = λ y h. let r = among-map (counted worker all) y v.own h in let old = o.own r.0 r.1 in
                    subst (OwnsNumber worker allowed root most all ok.owner id) (sym r.2)
                    (record { alone = old.alone; below = old.below; allowed_is = old.allowed_is; opening_is = old.opening_is; limit_is = old.limit_is; exactly = refl });
                out = λ no. absurd (cc);
              })
              (λ seat u ne old. record {
                begins = longer u.list old.begins;
                joined = λ l h. longer l (old.joined l h);
                own = λ y h. let b = old.own y h in record {
                  alone = b.alone;
                  below = b.below;
                  allowed_is = b.allowed_is;
                  opening_is = b.opening_is;
                  limit_is = b.limit_is;
                  exactly = b.exactly ∙ sym (same_by y.number (λ same. ne (sym b.alone ∙ (ap ok.owner (sym same) ∙ owned))));
                };
                out = λ is'. absurd (ne ((old.out is').1 ∙ sym held.1));
              })
              ok.seated;
        },
        λ y is'. (ap rest carried, let same : x ≡ y = same_carried x y c carried is' in ap (λ z. with_in worker v (entries z)) same),
      )

  -- the seat with the first number splits it off
  pub splits_pass : (id : ℕ) (v : View E) (first : Own E) (others : List (Own E)) → v.own ≡ first ∷ others → v.out ≡ false → Splits InTurn id v (without_first v) (only_first v)
  splits_pass id v first others own_is inside s ok at = let l = without_first v in let r = only_first v in let o = ok.seated id v at in let n : ℕ = first.number in let vs = set s.views id l in
      let new : ℕ = length s.views in let word = slice_index s.words 0 in
      let owner' : ℕ → ℕ = λ k. cond (k == n) new (ok.owner k) in
      let mine = o.own first (subst (IsAmong first) (sym own_is) (inl refl)) in
      let other : (k : ℕ) → k ≢ n → owner' k ≡ ok.owner k = λ k ne. ap (λ b. cond b new (ok.owner k)) (ne_eqb k n ne) in
      let moved : (y : Own E) (seat : ℕ) → y.number ≢ n → OwnsNumber worker allowed root most ok.total ok.owner seat y → OwnsNumber worker allowed root most ok.total owner' seat y =
      λ y seat ne b. record { alone = other y.number ne ∙ b.alone; below = b.below; allowed_is = b.allowed_is; opening_is = b.opening_is; limit_is = b.limit_is; exactly = b.exactly } in
      let left_own : (y : Own E) → IsAmong y l.own → OwnsNumber worker allowed root most ok.total owner' id y = λ y h.
      (let z = among-filter (λ (p : Own E). not (p.number == n)) y others (subst (λ os. IsAmong y (rest_of os)) own_is h) in moved y id (not-same y.number n z.1) (o.own y (subst (IsAmong y) (sym own_is) (inr z.0)))) in
      let Now : ℕ → View E → Type 0 = SeatTells worker allowed root most ok.total owner' ok.holder word in
      record {
        total = ok.total;
        owner = owner';
        holder = ok.holder;
        one = ok.one;
        home = ok.home;
        away = λ z. let a = ok.away z in let not_me : ok.holder ≢ id = λ e. apart_out v a.3.0 (some-injective v a.3.0 (sym at ∙ (ap (get_elem? s.views) (sym e) ∙ a.3.1))) inside a.3.2 in
            (a.0, a.1, other a.0 (λ e. not_me (sym a.2 ∙ (ap ok.owner e ∙ mine.alone))) ∙ a.2, (a.3.0, at_longer vs (r ∷ []) ok.holder a.3.0 (set_else s.views id ok.holder l not_me ∙ a.3.1), a.3.2));
        within = ok.within;
        room = ok.room;
        lawful = ok.lawful;
        seated = λ seat u e. ⊎_elim
            (λ old. each_set (Tells s ok) Now s.views id l
            (record { begins = o.begins; joined = o.joined; own = left_own; out = o.out })
            (λ seat' u' ne b. record {
              begins = b.begins;
              joined = b.joined;
              own = λ y h. let z = b.own y h in moved y seat' (λ same. ne (sym z.alone ∙ (ap ok.owner same ∙ mine.alone))) z;
              out = b.out;
            })
            ok.seated seat u old)
            (λ p. subst (λ (z : ℕ × View E). Now z.0 z.1) (λ i. (sym p.0 i, p.1 i)) (record {
              begins = o.begins;
              joined = λ x h. absurd h;
              own = λ y h. ⊎_elim
                  (λ is. subst (OwnsNumber worker allowed root most ok.total owner' (length vs)) (sym is) (record {
                    alone = ap (λ b. cond b new (ok.owner n)) (eq-eqb n n refl) ∙ sym (length-set s.views id l);
                    below = mine.below;
                    allowed_is = mine.allowed_is;
                    opening_is = mine.opening_is;
                    limit_is = mine.limit_is;
                    exactly = mine.exactly;
                  }))
                  (λ no. absurd no)
                  (subst (λ os. IsAmong y (first_of os)) own_is h);
              out = λ no. absurd (cc);
            }))
            (at_end vs r u seat e);
      }

  -- a seat with no number is split off
  pub splits_prefix : (id : ℕ) (v : View E) → Splits InTurn id v v (unnumbered v)
  splits_prefix id v s ok at = let o = ok.seated id v at in let r = unnumbered v in record {
    total = ok.total;
    owner = ok.owner;
    holder = ok.holder;
    one = ok.one;
    home = ok.home;
    away = λ z. let a = ok.away z in (a.0, a.1, a.2, (a.3.0, at_longer (set s.views id v) (r ∷ []) ok.holder a.3.0 (ap (λ vs. get_elem? vs ok.holder) (set_again s.views id v at) ∙ a.3.1), a.3.2));
    within = ok.within;
    room = ok.room;
    lawful = ok.lawful;
    seated = λ seat u e. ⊎_elim
        (λ old. each_set (Tells s ok) (Tells s ok) s.views id v o (λ seat' u' _ b. b) ok.seated seat u old)
        (λ p. subst (Tells s ok seat) p.1 (record { begins = o.begins; joined = λ x h. absurd h; own = λ y h. absurd h; out = λ no. absurd (cc) }))
        (at_end (set s.views id v) r u seat e);
  }

  pub joins : (id : ℕ) (v : View E) (other : ℕ) (w : View E) → w.out ≡ false → Joins InTurn id v other w (both v w) spent
  joins id v other w inside s ok at apart at' = let b = both v w in let o = ok.seated id v at in
      let was : get_elem? s.views other ≡ some w = sym (set_else s.views id other b apart) ∙ at' in let theirs = ok.seated other w was in
      let owner' : ℕ → ℕ = λ k. cond (ok.owner k == other) id (ok.owner k) in
      let stays : (k seat : ℕ) → seat ≢ other → ok.owner k ≡ seat → owner' k ≡ seat = λ k seat ne is. ap (λ b. cond b id (ok.owner k)) (ne_eqb (ok.owner k) other (λ same. ne (sym is ∙ same))) ∙ is in
      let moves : (k : ℕ) → ok.owner k ≡ other → owner' k ≡ id = λ k is. ap (λ b. cond b id (ok.owner k)) (eq-eqb (ok.owner k) other is) in
      let Now : ℕ → View E → Type 0 = SeatTells worker allowed root most ok.total owner' ok.holder (slice_index s.words 0) in
      let owned : (y : Own E) (seat seat' : ℕ) → OwnsNumber worker allowed root most ok.total ok.owner seat y → owner' y.number ≡ seat' → OwnsNumber worker allowed root most ok.total owner' seat' y =
      λ y seat seat' z is. record { alone = is; below = z.below; allowed_is = z.allowed_is; opening_is = z.opening_is; limit_is = z.limit_is; exactly = z.exactly } in
      record {
        total = ok.total;
        owner = owner';
        holder = ok.holder;
        one = ok.one;
        home = ok.home;
        away = λ z. let a = ok.away z in let not_it : ok.holder ≢ other = λ e. apart_out w a.3.0 (some-injective w a.3.0 (sym was ∙ (ap (get_elem? s.views) (sym e) ∙ a.3.1))) inside a.3.2 in (
          a.0,
          a.1,
          stays a.0 ok.holder not_it a.2,
          dite (ℕ_discrete ok.holder id)
              (λ e. let same : v ≡ a.3.0 = some-injective v a.3.0 (sym at ∙ (ap (get_elem? s.views) (sym e) ∙ a.3.1)) in
              (b, set_else (set s.views id b) other ok.holder spent not_it ∙ (ap (get_elem? (set s.views id b)) e ∙ set_here s.views id b (there s.views id v at)), ap (λ (u : View E). u.out) same ∙ a.3.2))
              (λ ne. (a.3.0, set_else (set s.views id b) other ok.holder spent not_it ∙ (set_else s.views id ok.holder b ne ∙ a.3.1), a.3.2)),
        );
        within = ok.within;
        room = ok.room;
        lawful = ok.lawful;
        seated = each_set (λ seat u. seat ≢ other → Now seat u) Now (set s.views id b) other spent
            (record { begins = (ok.total, refl); joined = λ l h. absurd h; own = λ y h. absurd h; out = λ no. absurd (cc) })
            (λ seat u ne f. f ne)
            (each_set (Tells s ok) (λ seat u. seat ≢ other → Now seat u) s.views id b
            (λ _. record {
              begins = o.begins;
              joined = λ l h. ⊎_elim (λ is. subst (StartsWith ok.total) (sym is) theirs.begins) (o.joined l) h;
              own = λ y h. ⊎_elim (λ m. let z = theirs.own y m in owned y other id z (moves y.number z.alone)) (λ m. let z = o.own y m in owned y id id z (stays y.number id (λ e. apart (sym e)) z.alone)) (among-append y w.own v.own h);
              out = o.out;
            })
            (λ seat u _ z ne. record { begins = z.begins; joined = z.joined; own = λ y h. let q = z.own y h in owned y seat seat q (stays y.number seat ne q.alone); out = z.out })
            ok.seated);
      }

  alone : (seat : ℕ) (u : View E) → get_elem? (first_view allowed root most ∷ []) seat ≡ some u → SeatTells worker allowed root most [] (λ _. 0) 0 0 seat u
  alone zero u e = subst (SeatTells worker allowed root most [] (λ _. 0) 0 0 0) (some-injective (first_view allowed root most) u e)
      (record {
        begins = ([], refl);
        joined = λ l h. absurd h;
        own = λ y h. let b = fresh-below root most 0 allowed y h in let n : b.0 ≡ y.number = (let e = b.1 in omega arith) in record {
          alone = refl;
          below = subst (λ i. i < length allowed) n b.2;
          allowed_is = b.3 ∙ ap (slice_index allowed) n;
          opening_is = b.4;
          limit_is = b.5;
          exactly = b.6;
        };
        out = λ no. absurd (cc);
      })
  alone (suc seat) u e = absurd (some-ne-none u (sym e))

  -- the table at its opening
  pub opens : (x : J) → entries x ≡ [] → opening_of x ≡ root → limit x ≡ most → sum allowed ≤ most → legal root [] → InTurn (opening (0 ∷ []) (Some x ∷ []) (first_view allowed root most))
  opens x empty root_is most_is room lawful = record {
    total = [];
    owner = λ _. 0;
    holder = 0;
    one = refl;
    home = λ _. (x, refl, empty, root_is, most_is);
    away = λ no. absurd (no refl);
    within = λ k. omega arith;
    room = room;
    lawful = lawful;
    seated = alone;
  }

  -- where a seat has every number and hasn't the journal out, the journal is at home
  pub record Ended (v : View E) (xs : List (Option J)) : Type 0 where
    pub journal : J
    pub home : get_elem? xs 0 ≡ some (Some journal)
    pub begins : StartsWith (entries journal) v.list
    pub joined : (l : List E) → IsAmong l v.joined → StartsWith (entries journal) l
    pub own : (o : Own E) → IsAmong o v.own → o.entries ≡ entries_by worker o.number (entries journal)
    pub only : (k : ℕ) → length allowed ≤ k → entries_by worker k (entries journal) ≡ []
    pub opening_is : opening_of journal ≡ root
    pub lawful : legal root (entries journal)

  none-past : (k : ℕ) (xs : List E) → length xs ≤ slice_index allowed k → length allowed ≤ k → xs ≡ []
  none-past k [] few past = refl
  none-past k (x ∷ xs) few past = let z = get_or_past allowed k 0 past in absurd (omega arith)

  pub closes : (id : ℕ) (v : View E) (ws : List ℕ) (xs : List (Option J)) → v.out ≡ false → ((k : ℕ) → k < length allowed → (o : Own E) × IsAmong o v.own × (o.number ≡ k)) → Final (Seen InTurn id v) ws xs → Ended v xs
  closes id v ws xs inside every f = let ok = f.1.0 in let at = f.1.1 in let o = ok.seated id v at in
      let home : slice_index f.0.words 0 ≡ 0 = dite (ℕ_discrete (slice_index f.0.words 0) 0) (λ e. e) (λ ne. let a = ok.away ne in let mine = every a.0 a.1 in
      let here : ok.holder ≡ id = sym a.2 ∙ (ap ok.owner (sym mine.2) ∙ (o.own mine.0 mine.1).alone) in
      absurd (apart_out v a.3.0 (some-injective v a.3.0 (sym at ∙ (ap (get_elem? f.0.views) (sym here) ∙ a.3.1))) inside a.3.2)) in
      let h = ok.home home in record {
        journal = h.0;
        home = f.4 0 (Some h.0) h.1;
        begins = subst (λ t. StartsWith t v.list) (sym h.2) o.begins;
        joined = λ l k. subst (λ t. StartsWith t l) (sym h.2) (o.joined l k);
        own = λ x k. (o.own x k).exactly ∙ ap (entries_by worker x.number) (sym h.2);
        only = λ k past. ap (entries_by worker k) h.2 ∙ none-past k (entries_by worker k ok.total) (ok.within k) past;
        opening_is = h.3;
        lawful = subst (legal root) (sym h.2) ok.lawful;
      }
