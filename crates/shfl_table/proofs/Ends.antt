-- Splitting, joining and closing, with values.
use Rattle.std.proofs.Common.{◌≡◌, ℕ, zero, suc, ◌+◌, ◌<◌, ◌≤◌, ◌⊎◌, Bool, true, cond, List, [], ◌∷◌, ◌++◌, map, length, set, get_or, sym, refl, ap, ◌∙◌, subst, inl, inr, ⊎_elim, arith, length-set, length-append, Option, Some, None, slice_get}
use mathlib.Core.Option.{some, some-injective}
use native.Mathlib.Decide.{dec_lt}
use lib.ListN.{get_elem?}
use Rattle.std.proofs.lemmas.List.{get_or_past}
use Rattle.atomic_table.specs.Table.{State, Splits, Joins, Final, Seen}
use Rattle.atomic_table.proofs.Lists.{at_set, set_here, set_else}
use Rattle.shfl_line.specs.declared.events.Mode.{Mode}
use Rattle.shfl_line.specs.declared.events.Mode.TheVariants.{Write, Read}
use Rattle.shfl_core.specs.declared.phase.Phase.TheVariants.{Idle}
use Rattle.shfl_core.specs.declared.phase.PassState.{PassState}
use Rattle.shfl_core.specs.declared.phase.Rules.{Rules}
use Rattle.shfl_core.specs.Phases.{is_holding}
use Rattle.shfl_core.specs.Waiting.{idle}
use Rattle.shfl_core.specs.Worlds.{known}
use Rattle.shfl_core.specs.Lawful.{Terms, count, Lawful}
use Rattle.shfl_core.proofs.Lists.{set-again, seen-at}
use Rattle.shfl_laws.proofs.laws.Opens.{seat-law, known-one}
use Rattle.shfl_table.proofs.Places.{there}
use Rattle.shfl_table.specs.declared.kept.Action.{Action}
use Rattle.shfl_table.specs.declared.view.Given.{Given}
use Rattle.shfl_table.specs.declared.view.Part.{Part}
use Rattle.shfl_table.specs.declared.view.View.{View}
use Rattle.shfl_laws.specs.Holds.{hold_of}
use Rattle.shfl_table.specs.Histories.{HasSeen, IsCurrent, actions_by}
use Rattle.shfl_table.specs.Places.{Every}
use Rattle.shfl_table.specs.Views.{number, IsAmong, IsSpent, given_view, part_of, new_view, next_view, not_last, pass_at, passes_from, spent_view, with_given}
use Rattle.shfl_laws.specs.Moves.{told_terms}
use Rattle.shfl_table.specs.BoardRule.{AreHome, BoardRule, Homes, SeatFacts, world_of}
use Rattle.shfl_table.specs.PassModel.{BoardId, PassModel, fresh_pass}
use Rattle.shfl_table.proofs.SeatViews.{passes-set, passes-at, live-pass, pass-there, at_end, dead_longer, dead_stays, hold-same}
use Rattle.shfl_table.proofs.RunEnds.{run-splits, run-joins, run-closes}
use Rattle.shfl_table.specs.ThreadRuns.{RanUntilClosed}
use Rattle.shfl_table.proofs.First.{count-is}
use Rattle.shfl_laws.proofs.laws.MoveRows.{forget-law}

passes-long : (i : ℕ) (vs : List View) → length (passes_from i vs) ≡ length vs
passes-long i [] = refl
passes-long i (x ∷ xs) = ap suc (passes-long (suc i) xs)

passes-more : (i : ℕ) (vs : List View) (w : View) → passes_from i (vs ++ w ∷ []) ≡ passes_from i vs ++ pass_at (i + length vs) w ∷ []
passes-more i [] w = ap (λ n. pass_at n w ∷ []) (let e : i ≡ i + 0 = omega arith in e)
passes-more i (x ∷ xs) w = ap (λ l. pass_at i x ∷ l) (passes-more (suc i) xs w ∙ ap (λ n. passes_from (suc i) xs ++ pass_at n w ∷ []) (let e : suc i + length xs ≡ i + suc (length xs) = omega arith in e))

-- one idle pass more changes what no place is known for
known-more : (i : ℕ) (l : List PassState) (q : ℕ) → get_or (l ++ idle (i + length l) ∷ []) q (idle (i + q)) ≡ get_or l q (idle (i + q))
known-more i [] zero = refl
known-more i [] (suc q) = refl
known-more i (x ∷ xs) zero = refl
known-more i (x ∷ xs) (suc q) = let a : suc i + length xs ≡ i + suc (length xs) = omega arith in let b : suc i + q ≡ i + suc q = omega arith in
    subst (λ (z : ℕ × ℕ). get_or (xs ++ idle z.0 ∷ []) q (idle z.1) ≡ get_or xs q (idle z.1)) (λ j. (a j, b j)) (known-more (suc i) xs q)

module _ {V : Type 0} (initial_state : V → List ℕ) (history : V → List Action) where
  -- what is free depends on the holds alone
  free-by : (r : List ℕ) (total : List Action) (P Q : List PassState) (hs : Homes V) → ((q : ℕ) → hold_of (known Q q) ≡ hold_of (known P q)) → AreHome initial_state history r total P hs → AreHome initial_state history r total Q hs
  free-by r total P Q hs same free none k small = ⊎_elim (λ x. inl (same k ∙ x)) (λ x. inr x) (free (λ q h. none q (same q ∙ h)) k small)

  -- the last pass splits off the next
  pub splits : (t : Terms) (r : List ℕ) (id : ℕ) (v : View) → v.live ≡ true → v.last ≡ true → number v + 1 < count t → Splits (BoardRule initial_state history t r) id v (not_last v) (next_view v)
  splits t r id v live last room s ok at = let l : View = not_last v in let n : View = next_view v in let vs : List View = set s.views id l in let passes : List PassState = passes_from 0 s.views in
      let o = ok.seated id v at in
      let long : id + 1 ≡ length s.views = o.last live last in
      let num : number v ≡ id = ok.lawful.numbers id v.pass (pass-there s.views id v at live) in
      let wider : length vs ≡ number v + 1 = (let a = length-set s.views id l in omega arith) in
      let sized : length passes ≡ number v + 1 = (let a = passes-long 0 s.views in omega arith) in
      let kept : passes_from 0 vs ≡ passes = passes-set 0 s.views id l ∙ (ap (set passes id) (live-pass (0 + id) l live) ∙ set-again passes id v.pass (pass-there s.views id v at live)) in
      let same : passes ++ idle (length passes) ∷ [] ≡ passes_from 0 (vs ++ n ∷ []) = (λ j. sym kept j ++ idle (sized j) ∷ []) ∙ sym (passes-more 0 vs n) in
      let longer : length (vs ++ n ∷ []) ≡ length s.views + 1 = omega (arith, length-append vs (n ∷ [])) in record {
        total = ok.total;
        lawful = subst (λ (z : List PassState). Lawful t (record { words = s.words; passes = z })) same (seat-law t (record { words = s.words; passes = passes }) ok.lawful (omega arith)).lawful;
        run = run-splits t s.words s.views ok.total ok.run id v at live (omega arith) (let a = ok.lawful.room in omega arith) same;
        free = free-by r ok.total passes (passes_from 0 (vs ++ n ∷ [])) s.homes (λ q. ap hold_of (sym (ap (λ z. known z q) same) ∙ known-one passes q)) ok.free;
        unborn = λ k h. ok.unborn k (omega arith);
        seated = λ seat u e. ⊎_elim
            (λ p. ⊎_elim
            (λ q. subst (λ (z : ℕ × View). SeatFacts r ok.total (vs ++ n ∷ []) z.0 z.1) (λ i. (sym q.0 i, q.1 i)) (record {
              last = λ _ no. absurd (cc);
              root_is = o.root_is;
              knew = o.knew;
              holder = o.holder;
              back = λ g h. let b = o.back g h in (dead_longer vs n g.number (dead_stays s.views id v l at live g.number b.0), b.1);
            }))
            (λ q. let u' = ok.seated seat u q.1 in record {
              last = λ li la. absurd (q.0 (let a = u'.last li la in let g : seat ≡ id = omega arith in g));
              root_is = u'.root_is;
              knew = u'.knew;
              holder = u'.holder;
              back = λ g h. let b = u'.back g h in (dead_longer vs n g.number (dead_stays s.views id v l at live g.number b.0), b.1);
            })
            (at_set s.views id seat l u p.1))
            (λ p. subst (λ (z : ℕ × View). SeatFacts r ok.total (vs ++ n ∷ []) z.0 z.1) (λ i. (sym p.0 i, p.1 i)) (record {
              last = λ _ _. omega (arith, length-append vs (n ∷ []));
              root_is = λ _. o.root_is live;
              knew = λ _. ((ok.total, refl), ok.unborn (length vs) (omega arith));
              holder = λ _ held. absurd (held refl);
              back = λ g h. absurd h;
            }))
            (at_end vs n u seat e);
      }

  -- an idle pass is given back to another
  pub joins : (t : Terms) (r : List ℕ) (id : ℕ) (v : View) (other : ℕ) (w : View) → v.live ≡ true → w.live ≡ true → w.pass.phase ≡ Idle → Joins (BoardRule initial_state history t r) id v other w (with_given v w) spent_view
  joins t r id v other w live live' rests s ok at apart at' = let b : View = with_given v w in let vs : List View = set s.views id b in let vs' : List View = set vs other spent_view in let passes : List PassState = passes_from 0 s.views in
      let o = ok.seated id v at in
      let at_other : get_elem? s.views other ≡ some w = sym (set_else s.views id other b apart) ∙ at' in
      let o' = ok.seated other w at_other in
      let here : get_elem? passes other ≡ some w.pass = pass-there s.views other w at_other live' in
      let e = seen-at passes other w.pass (idle other) here in
      let num : number w ≡ other = ok.lawful.numbers other w.pass here in
      let f = forget-law t (world_of s) other w.pass (idle other) ok.lawful here rests refl refl refl in
      let kept : passes_from 0 vs ≡ passes = passes-set 0 s.views id b ∙ (ap (set passes id) (live-pass (0 + id) b live) ∙ set-again passes id v.pass (pass-there s.views id v at live)) in
      let gone : passes_from 0 vs' ≡ set passes other (idle other) = passes-set 0 vs other spent_view ∙ ((λ j. set (kept j) other (idle (0 + other))) ∙ ap (λ z. set passes other (idle z)) (let x : 0 + other ≡ other = omega arith in x)) in
      let out : hold_of w.pass ≡ None = ap (λ z. cond (is_holding z) (Some w.pass.reg.mode) None) rests in
      let long : length vs' ≡ length s.views = length-set vs other spent_view ∙ length-set s.views id b in
      let stays : (k : ℕ) → IsSpent s.views k → IsSpent vs' k = λ k d. dead_stays vs other w spent_view at' live' k (dead_stays s.views id v b at live k d) in
      let now : IsSpent vs' (number w) = subst (IsSpent vs') (sym num) (spent_view, set_here vs other spent_view (there vs other w at'), refl) in record {
        total = ok.total;
        lawful = subst (λ (l : List PassState). Lawful t (record { words = s.words; passes = l })) (sym gone) f.lawful;
        run = run-joins t s.words s.views ok.total ok.run id v other w at live at_other live' apart num here rests gone at' now;
        free = free-by r ok.total passes (passes_from 0 vs') s.homes (λ q. ap (λ l. hold_of (known l q)) gone ∙ hold-same passes other w.pass (idle other) here out q) ok.free;
        unborn = λ k h. ok.unborn k (omega arith);
        seated = λ seat u g. ⊎_elim
            (λ p. subst (SeatFacts r ok.total vs' seat) p.1 (record {
              last = λ no. absurd (cc);
              root_is = λ no. absurd (cc);
              knew = λ no. absurd (cc);
              holder = λ no. absurd (cc);
              back = λ g h. absurd h;
            }))
            (λ p. ⊎_elim
            (λ q. subst (λ (z : ℕ × View). SeatFacts r ok.total vs' z.0 z.1) (λ i. (sym q.0 i, q.1 i)) (record {
              last = λ li la. o.last li la ∙ sym long;
              root_is = o.root_is;
              knew = o.knew;
              holder = o.holder;
              back = λ g h. ⊎_elim
                  (λ is. subst (λ (z : Given). IsSpent vs' z.number × HasSeen ok.total z.number z.history) (sym is) (now, subst (λ z. HasSeen ok.total z w.history) (sym num) (o'.knew live')))
                  (λ old. let d = o.back g old in (stays g.number d.0, d.1))
                  h;
            }))
            (λ q. let u' = ok.seated seat u q.1 in record {
              last = λ li la. u'.last li la ∙ sym long;
              root_is = u'.root_is;
              knew = u'.knew;
              holder = u'.holder;
              back = λ g h. let d = u'.back g h in (stays g.number d.0, d.1);
            })
            (at_set s.views id seat b u p.1))
            (at_set vs other seat spent_view u g);
      }

has_end : (xs : List Given) (y g : Given) → IsAmong g (xs ++ y ∷ []) → IsAmong g xs ⊎ (g ≡ y)
has_end [] y g h = ⊎_elim (λ e. inr e) (λ no. absurd no) h
has_end (x ∷ xs) y g h = ⊎_elim (λ e. inl (inl e)) (λ t. ⊎_elim (λ a. inl (inr a)) (λ b. inr b) (has_end xs y g t)) h

here-or : (vs : List View) (q : ℕ) → ((u : View) × (get_elem? vs q ≡ some u)) ⊎ (length vs ≤ q)
here-or [] q = inr (omega arith)
here-or (x ∷ xs) zero = inl (x, refl)
here-or (x ∷ xs) (suc q) = ⊎_elim (λ p. inl p) (λ h. inr (omega arith)) (here-or xs q)

-- where all are given back, each value is at home, with one history. All that was seen is a beginning of it, with all actions of its pass
pub record Ended {V : Type 0} (initial_state : V → List ℕ) (history : V → List Action) (rules : Rules) (attrs : List ℕ) (n : ℕ) (r : List ℕ) (given_all : List Given) (parts : List Part) (xs : List (Option V)) : Type 0 where
  pub total : List Action
  pub home : (k : ℕ) → k < length xs → (x : V) × (get_elem? xs k ≡ some (Some x)) × (initial_state x ≡ r) × (history x ≡ total)
  pub knew : (g : Given) → IsAmong g given_all → HasSeen total g.number g.history
  pub only : (k : ℕ) → n ≤ k → actions_by k total ≡ []
  pub run : RanUntilClosed rules attrs n parts total

module _ {V : Type 0} (initial_state : V → List ℕ) (history : V → List Action) (t : Terms) (n : ℕ) (wide : count t ≡ n) (r : List ℕ) where
  -- every pass is idle then
  all-idle : (s : State (Option V) View) (id : ℕ) (v : View) → BoardRule initial_state history t r s → get_elem? s.views id ≡ some v → v.live ≡ true → v.pass.phase ≡ Idle
      → ((k : ℕ) → k < n → (g : Given) × IsAmong g (v.back ++ given_view v ∷ []) × (g.number ≡ k)) → (k : ℕ) → (known (passes_from 0 s.views) k).phase ≡ Idle
  all-idle s id v ok at live rests all k = let o = ok.seated id v at in
      let num : number v ≡ id = ok.lawful.numbers id v.pass (pass-there s.views id v at live) in
      let few : length s.views ≤ n = (let a = ok.lawful.seats in let b = passes-long 0 s.views in omega arith) in
      let each : (u : View) → get_elem? s.views k ≡ some u → (pass_at (0 + k) u).phase ≡ Idle = λ u e.
      let h = all k (let t = there s.views k u e in omega arith) in
      ⊎_elim
      (λ b. let d = (o.back h.0 b).0 in let same : d.0 ≡ u = some-injective d.0 u (sym d.1 ∙ (ap (get_elem? s.views) h.2 ∙ e)) in
      ap (λ (z : Bool). (cond z u.pass (idle (0 + k))).phase) (ap (λ (z : View). z.live) (sym same) ∙ d.2))
      (λ is. let here : k ≡ id = sym h.2 ∙ (ap (λ (z : Given). z.number) is ∙ num) in
      let same : v ≡ u = some-injective v u (sym at ∙ (ap (get_elem? s.views) (sym here) ∙ e)) in ap (λ (z : PassState). z.phase) (live-pass (0 + k) u (ap (λ (z : View). z.live) (sym same) ∙ live)) ∙ (ap (λ (z : View). z.pass.phase) (sym same) ∙ rests))
      (has_end v.back (given_view v) h.0 h.1) in
      ⊎_elim
      (λ p. ap (λ (z : PassState). z.phase) (seen-at (passes_from 0 s.views) k (pass_at (0 + k) p.0) (idle k) (passes-at 0 s.views k p.0 p.1)).0 ∙ each p.0 p.1)
      (λ h. ap (λ (z : PassState). z.phase) (get_or_past (passes_from 0 s.views) k (idle k) (let a = passes-long 0 s.views in omega arith)))
      (here-or s.views k)

  pub closes : (id : ℕ) (v : View) (ws : List ℕ) (xs : List (Option V)) → v.live ≡ true → v.pass.phase ≡ Idle
      → ((k : ℕ) → k < n → (g : Given) × IsAmong g (v.back ++ given_view v ∷ []) × (g.number ≡ k))
      → Final (Seen (BoardRule initial_state history t r) id v) ws xs → Ended initial_state history t.rules t.attrs n r (v.back ++ given_view v ∷ []) (v.parts ++ part_of v ∷ []) xs
  closes id v ws xs live rests all f = let s = f.0 in let ok = f.1.0 in let at = f.1.1 in let o = ok.seated id v at in
      let num : number v ≡ id = ok.lawful.numbers id v.pass (pass-there s.views id v at live) in
      let few : length s.views ≤ n = (let a = ok.lawful.seats in let b = passes-long 0 s.views in omega arith) in
      let at_rest = all-idle s id v ok at live rests all in
      let nobody : (k : ℕ) → hold_of (known (passes_from 0 s.views) k) ≡ None = λ k. ap (λ z. cond (is_holding z) (Some (known (passes_from 0 s.views) k).reg.mode) None) (at_rest k) in
      let no : (k : ℕ) (m : Mode) → hold_of (known (passes_from 0 s.views) k) ≡ Some m → ⊥ = λ k m h. (let z : None ≡ Some m = sym (nobody k) ∙ h in cc) in
      let long = f.3 in record {
        total = ok.total;
        home = λ k h. ⊎_elim
            (λ reads. absurd (no k Read reads))
            (λ home. (home.0, f.4 k (Some home.0) home.1, home.2, home.3))
            (ok.free (λ q w. no q Write w) k (omega arith));
        knew = λ g h. ⊎_elim (λ b. (o.back g b).1) (λ is. subst (λ (z : Given). HasSeen ok.total z.number z.history) (sym is) (subst (λ z. HasSeen ok.total z v.history) (sym num) (o.knew live))) (has_end v.back (given_view v) g h);
        only = λ k h. ok.unborn k (omega arith);
        run = run-closes t s.words s.views ok.total ok.run id v n at live num few at_rest;
      }

some_is : {X : Type 0} (x y : X) → Some x ≡ Some y → x ≡ y
some_is x y e = cc

module _ {V : Type 0} (initial_state : V → List ℕ) (history : V → List Action) (r : List ℕ) (t : List Action) where
  all_there : (xs : List V) → ((k : ℕ) → k < length (map Some xs) → (x : V) × (get_elem? (map Some xs) k ≡ some (Some x)) × (initial_state x ≡ r) × (history x ≡ t)) → Every (IsCurrent initial_state history r t) xs
  all_there [] h = tt
  all_there (y ∷ ys) h = let a = h 0 (omega arith) in let same : a.0 ≡ y = sym (some_is y a.0 (some-injective (Some y) (Some a.0) a.1)) in
      (subst (IsCurrent initial_state history r t) same (a.2, a.3), all_there ys (λ k l. h (suc k) (omega arith)))

  pub all_alike : (xs : List V) (ys : List (Option V)) → map Some xs ≡ ys → ((k : ℕ) → k < length ys → (x : V) × (get_elem? ys k ≡ some (Some x)) × (initial_state x ≡ r) × (history x ≡ t)) → Every (IsCurrent initial_state history r t) xs
  all_alike xs ys is h = all_there xs (subst (λ (l : List (Option V)). (k : ℕ) → k < length l → (x : V) × (get_elem? l k ≡ some (Some x)) × (initial_state x ≡ r) × (history x ≡ t)) (sym is) h)

module _ {A : Type 0} where
  get_snoc : (xs : List A) (x : A) (i : ℕ) → (i < length xs → slice_get (xs ++ x ∷ []) i ≡ slice_get xs i) × (i ≡ length xs → slice_get (xs ++ x ∷ []) i ≡ Some x)
  get_snoc [] x zero = ((λ h. absurd (omega arith)), λ _. refl)
  get_snoc [] x (suc i) = ((λ h. absurd (omega arith)), λ h. absurd (omega arith))
  get_snoc (y ∷ ys) x zero = ((λ _. refl), λ h. absurd (omega arith))
  get_snoc (y ∷ ys) x (suc i) = let r = get_snoc ys x i in ((λ h. r.0 (omega arith)), λ h. r.1 (omega arith))

  -- each element is that of its place, with one more
  pub each_snoc : (f : ℕ → A) (xs ys : List A) (x : A) → ys ≡ xs ++ x ∷ [] → x ≡ f (length xs) → ((i : ℕ) → i < length xs → slice_get xs i ≡ Some (f i)) → (i : ℕ) → i < length ys → slice_get ys i ≡ Some (f i)
  each_snoc f xs ys x is here below i h = let g = get_snoc xs x i in let long : length ys ≡ length xs + 1 = ap length is ∙ length-append xs (x ∷ []) in
      ap (λ l. slice_get l i) is ∙ elim (dec_lt i (length xs)) as (λ _. slice_get (xs ++ x ∷ []) i ≡ Some (f i)) [
        | yes lt ↦ g.0 lt ∙ below i lt
        | no ge ↦ let e : i ≡ length xs = omega arith in g.1 e ∙ ap Some (here ∙ sym (ap f e))
      ]

pub pushed : {V : Type 0} (initial_state : List ℕ) (board : BoardId) (n : ℕ) (x : PassModel V) (xs ys : List (PassModel V)) → ys ≡ xs ++ x ∷ [] → x ≡ fresh_pass initial_state board n → n ≡ length xs
    → ((i : ℕ) → i < length xs → slice_get xs i ≡ Some (fresh_pass initial_state board i)) → (i : ℕ) → i < length ys → slice_get ys i ≡ Some (fresh_pass initial_state board i)
pushed initial_state board n x xs ys is here last = each_snoc (fresh_pass initial_state board) xs ys x is (here ∙ ap (fresh_pass initial_state board) last)

pub map-snoc : {A B : Type 0} (f : A → B) (xs : List A) (x : A) → map f (xs ++ x ∷ []) ≡ map f xs ++ f x ∷ []
map-snoc f [] x = refl
map-snoc {A} {B} f (y ∷ ys) x = ap (λ (l : List B). f y ∷ l) (map-snoc f ys x)

pub splits-again : {V : Type 0} (initial_state : V → List ℕ) (history : V → List Action) (rules : Rules) (count : ℕ) (words : List ℕ) (r : List ℕ) (id n : ℕ) (v : View) → v ≡ new_view (told_terms rules count words).attrs r n → n + 1 < count → Splits (BoardRule initial_state history (told_terms rules count words) r) id v (not_last v) (next_view v)
splits-again initial_state history rules count words r id n v e h = splits initial_state history (told_terms rules count words) r id v (ap (λ (z : View). z.live) e) (ap (λ (z : View). z.last) e)
    (subst (λ (z : ℕ × ℕ). z.0 + 1 < z.1) (λ j. (sym (ap (λ (z : View). number z) e) j, sym (count-is rules count words) j)) h)
