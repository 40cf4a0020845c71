-- The tickets of a list of calls, by their places.
use Rattle.std.proofs.Common.{◌≡◌, ◌≢◌, ℕ, zero, suc, ◌+◌, ◌<◌, ◌≤◌, ◌==◌, ◌||◌, cond, Bool, true, false, List, [], ◌∷◌, ◌++◌, length, sym, refl, ap, ◌∙◌, inl, inr, arith, slice_get, get_or, take, Some, None, Option, eq-eqb, ne_eqb, append_assoc, append-nil}
use Rattle.std.specs.List.{count_by, All}
use Rattle.std.proofs.lemmas.List.Elements.{All-nil, All-cons}
use Rattle.std.proofs.lemmas.List.Sums.{sum_by-cons, sum_by-append}
use mathlib.Core.Logic.{dite}
use mathlib.Core.Bool.{false≢true}
use native.Mathlib.Decide.{ℕ_discrete}
use Rattle.hist_log.specs.declared.numbered.NumberedCall.{NumberedCall}
use Rattle.call_queue.specs.declared.rule.Ticket.{Ticket}
use Rattle.call_queue.specs.declared.rule.Share.{Share}
use Rattle.call_queue.specs.Tickets.{calls_from, ends_from, tickets_of, call_at, calls_in, bare, is_end, ends_in, has_end, AreWhole}
use Rattle.call_queue.specs.Rule.{IsOneOf, weigh, HasTakenAll}
use Rattle.call_queue.proofs.Weights.{weigh-append}

either_assoc : (a b c : Bool) → (a || (b || c)) ≡ ((a || b) || c)
either_assoc true b c = refl
either_assoc false b c = refl

pub length-ends_from : (C : Type 0) (at n : ℕ) → length (ends_from {C = C} at n) ≡ n
length-ends_from C at zero = refl
length-ends_from C at (suc n) = ap suc (length-ends_from C (suc at) n)

ends-ends_from : (C : Type 0) (at n : ℕ) → ends_in {C = C} (ends_from at n) ≡ n
ends-ends_from C at zero = refl
ends-ends_from C at (suc n) = let r = ends-ends_from C (suc at) n in let one = sum_by-cons (λ (t : Ticket C). cond (is_end t.call) 1 0) (record { at = at; call = None }) (ends_from (suc at) n) in omega arith

either_neither : (a : Bool) → (a || false) ≡ a
either_neither true = refl
either_neither false = refl

either_true : (a : Bool) → (a || true) ≡ true
either_true true = refl
either_true false = refl

added : (a b : ℕ) {x y : ℕ} → a ≡ x → b ≡ y → a + b ≡ x + y
added a b e f = λ i. e i + f i

module _ {C : Type 0} where
  pub calls_in-append : (xs ys : List (Ticket C)) → calls_in (xs ++ ys) ≡ calls_in xs ++ calls_in ys
  calls_in-append [] ys = refl
  calls_in-append (x ∷ xs) ys = ap (λ l. call_at x.at x.call ++ l) (calls_in-append xs ys) ∙ sym (append_assoc (call_at x.at x.call) (calls_in xs) (calls_in ys))

  pub has_end-append : (xs ys : List (Ticket C)) → has_end (xs ++ ys) ≡ (has_end xs || has_end ys)
  has_end-append [] ys = refl
  has_end-append (x ∷ xs) ys = ap (λ b. is_end x.call || b) (has_end-append xs ys) ∙ either_assoc (is_end x.call) (has_end xs) (has_end ys)

  pub no_end_more : (ts : List (Ticket C)) (t : Ticket C) (c : C) → t.call ≡ Some c → has_end (ts ++ t ∷ []) ≡ has_end ts
  no_end_more ts t c is = has_end-append ts (t ∷ []) ∙ (ap (λ o. has_end ts || (is_end o || false)) is ∙ either_neither (has_end ts))

  pub end_more : (ts : List (Ticket C)) (t : Ticket C) → t.call ≡ None → has_end (ts ++ t ∷ []) ≡ true
  end_more ts t is = has_end-append ts (t ∷ []) ∙ (ap (λ o. has_end ts || (is_end o || false)) is ∙ either_true (has_end ts))

  -- ---- one more ticket

  calls_from-take : (at : ℕ) (cs : List C) (k : ℕ) (c : C) → k < length cs → c ≡ get_or cs k c → calls_from at (take (suc k) cs) ≡ calls_from at (take k cs) ++ record { at = at + k; call = Some c } ∷ []
  calls_from-take at [] k c below is = absurd (omega arith)
  calls_from-take at (x ∷ xs) zero c below is = let e : at ≡ at + 0 = omega arith in λ i. record { at = e i; call = Some (sym is i) } ∷ []
  calls_from-take at (x ∷ xs) (suc k) c below is = let e : suc at + k ≡ at + suc k = omega arith in
      ap (λ l. record { at = at; call = Some x } ∷ l) (calls_from-take (suc at) xs k c (omega arith) is ∙ ap (λ n. calls_from (suc at) (take k xs) ++ record { at = n; call = Some c } ∷ []) e)

  -- the tickets of the first so many calls, and one more
  pub next_call : (cs : List C) (k : ℕ) (c : C) → k < length cs → c ≡ get_or cs k c → calls_from 0 (take (k + 1) cs) ≡ calls_from 0 (take k cs) ++ record { at = k; call = Some c } ∷ []
  next_call cs k c below is = let e : k + 1 ≡ suc k = omega arith in let z : 0 + k ≡ k = omega arith in
      ap (λ n. calls_from 0 (take n cs)) e ∙ (calls_from-take 0 cs k c below is ∙ ap (λ n. calls_from 0 (take k cs) ++ record { at = n; call = Some c } ∷ []) z)

  ends_from-more : (at n : ℕ) → ends_from {C = C} at (suc n) ≡ ends_from at n ++ record { at = at + n; call = None } ∷ []
  ends_from-more at zero = let e : at ≡ at + 0 = omega arith in ap (λ n. record { at = n; call = None } ∷ []) e
  ends_from-more at (suc n) = let e : suc at + n ≡ at + suc n = omega arith in
      ap (λ l. record { at = at; call = None } ∷ l) (ends_from-more (suc at) n ∙ ap (λ m. ends_from (suc at) n ++ record { at = m; call = None } ∷ []) e)

  pub next_end : (all : List (Ticket C)) (at n : ℕ) → all ++ ends_from at (n + 1) ≡ (all ++ ends_from at n) ++ record { at = at + n; call = None } ∷ []
  next_end all at n = let e : n + 1 ≡ suc n = omega arith in
      ap (λ m. all ++ ends_from at m) e ∙ (ap (λ l. all ++ l) (ends_from-more at n) ∙ sym (append_assoc all (ends_from at n) (record { at = at + n; call = None } ∷ [])))

  pub length-calls_from : (at : ℕ) (cs : List C) → length (calls_from at cs) ≡ length cs
  length-calls_from at [] = refl
  length-calls_from at (c ∷ cs) = ap suc (length-calls_from (suc at) cs)

  -- ---- the calls come back

  no_calls : (at n : ℕ) → calls_in (ends_from {C = C} at n) ≡ []
  no_calls at zero = refl
  no_calls at (suc n) = no_calls (suc at) n

  bare-calls_from : (at : ℕ) (cs : List C) → bare (calls_in (calls_from at cs)) ≡ cs
  bare-calls_from at [] = refl
  bare-calls_from at (c ∷ cs) = ap (λ l. c ∷ l) (bare-calls_from (suc at) cs)

  pub bare-tickets_of : (cs : List C) (n : ℕ) → bare (calls_in (tickets_of cs n)) ≡ cs
  bare-tickets_of cs n =
      ap bare (calls_in-append (calls_from 0 cs) (ends_from (length cs) n) ∙ (ap (λ l. calls_in (calls_from 0 cs) ++ l) (no_calls (length cs) n) ∙ append-nil (calls_in (calls_from 0 cs))))
      ∙ bare-calls_from 0 cs

  pub tickets-whole : (cs : List C) (n : ℕ) → AreWhole (tickets_of cs n)
  tickets-whole cs n = (n, ap (λ l. tickets_of l n) (sym (bare-tickets_of cs n)))

  -- ---- the ends are counted

  ends-calls_from : (at : ℕ) (cs : List C) → ends_in (calls_from at cs) ≡ 0
  ends-calls_from at [] = refl
  ends-calls_from at (c ∷ cs) = let r = ends-calls_from (suc at) cs in let one = sum_by-cons (λ (t : Ticket C). cond (is_end t.call) 1 0) (record { at = at; call = Some c }) (calls_from (suc at) cs) in omega arith

  pub ends-tickets_of : (cs : List C) (n : ℕ) → ends_in (tickets_of cs n) ≡ n
  ends-tickets_of cs n = let both = sum_by-append (λ (t : Ticket C). cond (is_end t.call) 1 0) (calls_from 0 cs) (ends_from (length cs) n) in
      let a = ends-calls_from 0 cs in let b = ends-ends_from C (length cs) n in omega arith

  -- ---- what stands at a place

  end-there : (at n i : ℕ) (t : Ticket C) → slice_get (ends_from at n) i ≡ Some t → t.call ≡ None
  end-there at zero i t e = absurd (cc)
  end-there at (suc n) zero t e = let f : Option (Ticket C) → Option C = λ o. elim o [ Some x ↦ x.call | None ↦ None ] in sym (ap f e)
  end-there at (suc n) (suc i) t e = end-there (suc at) n i t e

  call-there : (at e n : ℕ) (cs : List C) (i : ℕ) (t : Ticket C) (c : C) → slice_get (calls_from at cs ++ ends_from e n) i ≡ Some t → t.call ≡ Some c → slice_get cs i ≡ Some c
  call-there at e n [] i t c got is = let none = end-there e n i t got in absurd (cc)
  call-there at e n (x ∷ xs) zero t c got is = let f : Option (Ticket C) → Option C = λ o. elim o [ Some x ↦ x.call | None ↦ None ] in ap f got ∙ is
  call-there at e n (x ∷ xs) (suc i) t c got is = call-there (suc at) e n xs i t c got is

  end-behind : (at e n : ℕ) (cs : List C) (i : ℕ) (t : Ticket C) → slice_get (calls_from at cs ++ ends_from e n) i ≡ Some t → t.call ≡ None → length cs ≤ i
  end-behind at e n [] i t got is = omega arith
  end-behind at e n (x ∷ xs) zero t got is = let f : Option (Ticket C) → Option C = λ o. elim o [ Some x ↦ x.call | None ↦ None ] in let some : Some x ≡ t.call = ap f got in absurd (cc)
  end-behind at e n (x ∷ xs) (suc i) t got is = let r = end-behind (suc at) e n xs i t got is in omega arith

  pub call_of-place : (all : List (Ticket C)) (t : Ticket C) (c : C) → AreWhole all → slice_get all t.at ≡ Some t → t.call ≡ Some c → slice_get (bare (calls_in all)) t.at ≡ Some c
  call_of-place all t c filled got is = let cs = bare (calls_in all) in call-there 0 (length cs) filled.0 cs t.at t c (sym (ap (λ l. slice_get l t.at) filled.1) ∙ got) is

  -- ---- how often a place is taken

  abbrev weight_of : ℕ → ℕ → Option C → ℕ
  weight_of k at None = 0
  weight_of k at (Some c) = cond (at == k) 1 0

  -- 1 for a call at the place
  abbrev weight : ℕ → Ticket C → ℕ
  weight k t = weight_of k t.at t.call

  count_one : (k at : ℕ) (o : Option C) (rest : List (NumberedCall C)) → count_by (λ c. c.at == k) (call_at at o ++ rest) ≡ weight_of k at o + count_by (λ c. c.at == k) rest
  count_one k at None rest = omega arith
  count_one k at (Some c) rest = sum_by-cons (λ (b : NumberedCall C). cond (b.at == k) 1 0) (record { at = at; call = c }) rest

  count_weigh : (k : ℕ) (ts : List (Ticket C)) → count_by (λ c. c.at == k) (calls_in ts) ≡ weigh (weight k) ts
  count_weigh k [] = refl
  count_weigh k (t ∷ ts) = let a = count_one k t.at t.call (calls_in ts) in let b = count_weigh k ts in omega arith

  ends_weigh : (k at n : ℕ) (ts : List (Ticket C)) → ts ≡ ends_from at n → weigh (weight k) ts ≡ 0
  ends_weigh k at zero ts is = ap (weigh (weight k)) is
  ends_weigh k at (suc n) ts is = let r = ends_weigh k (suc at) n (ends_from (suc at) n) refl in ap (weigh (weight k)) is ∙ (let z : 0 + weigh (weight k) (ends_from (suc at) n) ≡ 0 = omega arith in z)

  calls_weigh : (k at : ℕ) (cs : List C) → (k < at → weigh (weight k) (calls_from at cs) ≡ 0) × (at ≤ k → k < at + length cs → weigh (weight k) (calls_from at cs) ≡ 1)
  calls_weigh k at [] = ((λ _. refl), λ a b. absurd (omega arith))
  calls_weigh k at (c ∷ cs) = let r = calls_weigh k (suc at) cs in (
    (λ below. added (cond (at == k) 1 0) (weigh (weight k) (calls_from (suc at) cs)) (ap (λ b. cond b 1 0) (ne_eqb at k (λ e. absurd (omega arith)))) (r.0 (omega arith))),
    (λ from to. dite (ℕ_discrete at k)
        (λ e. added (cond (at == k) 1 0) (weigh (weight k) (calls_from (suc at) cs)) (ap (λ b. cond b 1 0) (eq-eqb at k e)) (r.0 (omega arith)))
        (λ ne. let apart : at ≢ k = ne in added (cond (at == k) 1 0) (weigh (weight k) (calls_from (suc at) cs)) (ap (λ b. cond b 1 0) (ne_eqb at k ne)) (r.1 (omega arith) (omega arith)))),
  )

  tickets_weigh : (k : ℕ) (cs : List C) (n : ℕ) → k < length cs → weigh (weight k) (tickets_of cs n) ≡ 1
  tickets_weigh k cs n below = let a = weigh-append (weight k) (calls_from 0 cs) (ends_from (length cs) n) in let b = (calls_weigh k 0 cs).1 (omega arith) (omega arith) in let c = ends_weigh k (length cs) n (ends_from (length cs) n) refl in omega arith

  weigh_zero : (h : Ticket C → ℕ) (xs : List (Ticket C)) → ((i : ℕ) (t : Ticket C) → slice_get xs i ≡ Some t → h t ≡ 0) → weigh h xs ≡ 0
  weigh_zero h [] each = refl
  weigh_zero h (x ∷ xs) each = let a = each 0 x refl in let b = weigh_zero h xs (λ i t e. each (suc i) t e) in omega arith

  get_behind : (xs ys : List (Ticket C)) (i : ℕ) → slice_get (xs ++ ys) (length xs + i) ≡ slice_get ys i
  get_behind [] ys i = ap (slice_get ys) (let z : 0 + i ≡ i = omega arith in z)
  get_behind (x ∷ xs) ys i = ap (slice_get (x ∷ (xs ++ ys))) (let z : suc (length xs) + i ≡ suc (length xs + i) = omega arith in z) ∙ get_behind xs ys i

  -- a list with an end has one
  an_end : (ts : List (Ticket C)) → has_end ts ≡ true → (t : Ticket C) × IsOneOf t ts × (t.call ≡ None)
  an_end [] h = absurd (false≢true h)
  an_end (t ∷ ts) h = by t.call refl h (an_end ts)
    where
      by : (o : Option C) → t.call ≡ o → (is_end o || has_end ts) ≡ true → (has_end ts ≡ true → (u : Ticket C) × IsOneOf u ts × (u.call ≡ None)) → (u : Ticket C) × IsOneOf u (t ∷ ts) × (u.call ≡ None)
      by None is e rest = (t, inl refl, is)
      by (Some c) is e rest = let r = rest e in (r.0, inr r.1, r.2)

  no_weight : (k length-of at : ℕ) (o : Option C) → ((c : C) → o ≡ Some c → at < length-of) → length-of ≤ at → weight_of k at o ≡ 0
  no_weight k n at None each behind = refl
  no_weight k n at (Some c) each behind = let b = each c refl in absurd (omega arith)

  get_below : (cs : List C) (i : ℕ) (c : C) → slice_get cs i ≡ Some c → i < length cs
  get_below [] i c e = absurd (cc)
  get_below (x ∷ xs) zero c e = omega arith
  get_below (x ∷ xs) (suc i) c e = let r = get_below xs i c e in omega arith

  -- where every ticket that left the queue is among those taken, and an end is among them, each call was taken once
  pub each_taken : (v : Share C) (items : List (Ticket C)) → AreWhole v.all → HasTakenAll v items → has_end v.taken ≡ true
      → (k : ℕ) → k < length (bare (calls_in v.all)) → count_by (λ c. c.at == k) (calls_in v.taken) ≡ 1
  each_taken v items filled knows ended k below =
      let cs = bare (calls_in v.all) in let x = an_end v.taken ended in let popped = knows.popped in
      let behind : length cs ≤ x.0.at = end-behind 0 (length cs) filled.0 cs x.0.at x.0 (sym (ap (λ l. slice_get l x.0.at) filled.1) ∙ knows.placed x.0 x.1) x.2 in
      let before : x.0.at < length popped = knows.earlier x.0 x.1 in
      let left : weigh (weight k) items ≡ 0 = weigh_zero (weight k) items
      (λ i t e. let got : slice_get v.all (length popped + i) ≡ Some t = ap (λ l. slice_get l (length popped + i)) knows.in_order ∙ (get_behind popped items i ∙ e) in
      let place : t.at ≡ length popped + i = knows.numbered (length popped + i) t got in
      no_weight k (length cs) t.at t.call
      (λ c is. get_below cs t.at c (call_of-place v.all t c filled (ap (slice_get v.all) place ∙ got) is))
      (omega arith)) in
      let split : weigh (weight k) v.all ≡ weigh (weight k) popped + weigh (weight k) items = ap (weigh (weight k)) knows.in_order ∙ weigh-append (weight k) popped items in
      let once = knows.once (weight k) in
      let all : weigh (weight k) v.all ≡ 1 = ap (weigh (weight k)) filled.1 ∙ tickets_weigh k cs filled.0 below in
      count_weigh k v.taken ∙ (let z : weigh (weight k) v.taken ≡ 1 = omega arith in z)

  -- ---- calls at earlier places

  pub calls-below : (n : ℕ) (ts : List (Ticket C)) → ((t : Ticket C) → IsOneOf t ts → t.at < n) → All (λ b. b.at < n) (calls_in ts)
  calls-below n [] each = All-nil (λ (b : NumberedCall C). b.at < n)
  calls-below n (t ∷ ts) each = by t.call (calls-below n ts (λ u h. each u (inr h)))
    where
      by : (o : Option C) → All (λ b. b.at < n) (calls_in ts) → All (λ b. b.at < n) (call_at t.at o ++ calls_in ts)
      by None rest = rest
      by (Some c) rest = All-cons (λ (b : NumberedCall C). b.at < n) (record { at = t.at; call = c }) (calls_in ts) (each t (inl refl)) rest
