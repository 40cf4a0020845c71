-- Any operation whose world stays lawful keeps the rule, with the values.
use Rattle.std.proofs.Common.{◌≡◌, ℕ, ◌-◌, min, Bool, true, false, cond, List, ◌++◌, map, length, set, Option, Some, None, sym, refl, ap, ◌∙◌, subst, inl, inr, arith}
use mathlib.Core.Logic.{dite}
use native.Mathlib.Decide.{dec_lt}
use mathlib.Core.Option.{some}
use lib.ListN.{get_elem?}
use Rattle.atomic_table.specs.Table.{State, Me, Act, keeps, homes_after, carried_after, Valid, stepped}
use Rattle.atomic_table.proofs.Lists.{set_here}
use Rattle.shfl_line.specs.declared.events.Mode.{Mode}
use Rattle.shfl_line.specs.declared.events.Mode.TheVariants.{Write, Read}
use Rattle.shfl_core.specs.declared.phase.PassState.{PassState}
use Rattle.shfl_core.specs.declared.words.Access.{Access}
use Rattle.shfl_core.specs.Words.{look, site, told, written, index, put}
use Rattle.shfl_core.specs.Waiting.{idle}
use Rattle.shfl_core.specs.Worlds.{World, after_access, known}
use Rattle.shfl_core.proofs.Lists.{seen-at}
use Rattle.shfl_core.specs.Plan.{moving, plan}
use Rattle.shfl_core.specs.Take.{take}
use Rattle.shfl_core.specs.Phases.{is_holding}
use Rattle.shfl_core.specs.Lawful.{Terms, Lawful, Formed, InRange}
use Rattle.shfl_core.proofs.Blind.{store-blind, told-found}
use Rattle.shfl_laws.specs.Seen.{SeenAs}
use Rattle.shfl_laws.proofs.laws.InRange.{in-range-law}
use Rattle.shfl_table.specs.Perform.{Permits}
use Rattle.shfl_table.proofs.Places.{there, take_all, give_all, AtHome, taken, taken_else, taken_length, may_take, may_give, given_all, given_else, given_length, given_here, collected, each_home}
use Rattle.shfl_laws.proofs.laws.OwnSteps.{own-step}
use Rattle.shfl_laws.specs.Holds.{hold_of, is_releasing}
use Rattle.shfl_laws.specs.Moves.{first_seated}
use Rattle.shfl_table.specs.MadeInHolds.{changes_of}
use Rattle.shfl_table.specs.ThreadRuns.{did_in, part_in}
use Rattle.shfl_table.specs.Places.{Every, numbered}
use Rattle.shfl_table.specs.Histories.{Continues, HasSeen, IsCurrent, common_history}
use Rattle.shfl_table.specs.declared.kept.Action.{Action}
use Rattle.shfl_table.specs.declared.view.View.{View}
use Rattle.shfl_table.specs.Views.{Deeds, number, part_of, passes_from, step_deeds, view_after}
use Rattle.shfl_table.specs.BoardRule.{BoardRule, IsHome, world_of}
use Rattle.shfl_table.specs.ValueMoves.{GainsHold, MayFree, MovesValues, access_play, step_play}
use Rattle.shfl_laws.proofs.laws.Holds.{take-mode, hold-seen, frees-only}
use Rattle.shfl_table.proofs.Candidates.{attr-told}
use Rattle.shfl_table.proofs.SeatViews.{pass-there, same_carried, none-some}
use Rattle.shfl_table.proofs.ThreadRuns.{GoesOn, step-goes-on}
use Rattle.shfl_table.proofs.Values.{all-home, freed-ruled, own-home, read-ruled, stays-ruled, unread-ruled, write-ruled}
use Rattle.std.proofs.lemmas.List.{length-map}

-- an operation of a pass, whichever it is
module _ {V : Type 0} (initial_state : V → List ℕ) (history : V → List Action) (t : Terms) (r : List ℕ) (slots id : ℕ) (m : Me (Option V) View) (a : Access) (next : ℕ → PassState) (qs : ℕ → Deeds) (live : m.0.live ≡ true) (blind : (n : ℕ) → next (told a n) ≡ next n)
    (law : number m.0 ≡ id → (w : World) → Lawful t w → get_elem? w.passes id ≡ some m.0.pass → Lawful t (after_access w id a (next (look w.words (site a)))))
    (grows : number m.0 ≡ id → (w : World) → Lawful t w → get_elem? w.passes id ≡ some m.0.pass → GoesOn t.rules w id (qs (told a (look w.words (site a)))) (after_access w id a (next (look w.words (site a)))))
    (steady : (n : ℕ) (x y : Mode) → hold_of m.0.pass ≡ Some x → hold_of (next n) ≡ Some y → x ≡ y)
    (ready : (n : ℕ) (x : Mode) → hold_of m.0.pass ≡ Some x → hold_of (next n) ≡ None → MayFree initial_state history x slots m) where
  module _ (s : State (Option V) View) (ok : BoardRule initial_state history t r s) (long : length s.homes ≡ slots) (at : get_elem? s.views id ≡ some m.0) where
    abbrev n : ℕ
    n = told a (look s.words (site a))

    abbrev q : PassState
    q = next (told a (look s.words (site a)))

    abbrev Outcome : Type 0
    Outcome = (w : View) × (act : Act (Option V)) × Valid s.homes m.1 act × BoardRule initial_state history t r (stepped s (index (site a)) (put a (look s.words (site a))) id m.1 w act)
        × MovesValues initial_state history next qs slots m (told a (look s.words (site a))) (w, carried_after m.1 act)

    num : number m.0 ≡ id
    num = ok.lawful.numbers id m.0.pass (pass-there s.views id m.0 at live)

    lawful : Lawful t (record { words = written s.words a; passes = set (passes_from 0 s.views) id (next (told a (look s.words (site a)))) })
    lawful = subst (λ (z : PassState). Lawful t (record { words = written s.words a; passes = set (passes_from 0 s.views) id z })) (sym (blind (look s.words (site a)))) (law num (world_of s) ok.lawful (pass-there s.views id m.0 at live))

    grown : GoesOn t.rules (world_of s) id (qs (told a (look s.words (site a)))) (record { words = written s.words a; passes = set (passes_from 0 s.views) id (next (told a (look s.words (site a)))) })
    grown = subst (λ (z : PassState). GoesOn t.rules (world_of s) id (qs (told a (look s.words (site a)))) (record { words = written s.words a; passes = set (passes_from 0 s.views) id z })) (sym (blind (look s.words (site a)))) (grows num (world_of s) ok.lawful (pass-there s.views id m.0 at live))

    like : (k : ℕ) → IsHome initial_state history r ok.total s.homes k → (x : V) × (get_elem? s.homes k ≡ some (some (Some x))) × IsCurrent initial_state history r ok.total x
    like k h = (h.0, h.1, (h.2, h.3))

    keep : hold_of m.0.pass ≡ hold_of (next (told a (look s.words (site a)))) → (w : View) × (act : Act (Option V)) × Valid s.homes m.1 act × BoardRule initial_state history t r (stepped s (index (site a)) (put a (look s.words (site a))) id m.1 w act)
        × MovesValues initial_state history next qs slots m (told a (look s.words (site a))) (w, carried_after m.1 act)
    keep e = (
      view_after (qs (told a (look s.words (site a)))) m.0 (next (told a (look s.words (site a)))) m.0.history,
      keeps,
      tt,
      stays-ruled initial_state history (qs (told a (look s.words (site a)))) t r id m.0 s ok at live q (written s.words a) lawful grown e,
      record {
        stays = λ _. (refl, refl);
        gains = λ mode x y. absurd (none-some (hold_of q) mode (sym e ∙ x) y);
        frees = λ mode x y. absurd (none-some (hold_of q) mode y (sym e ∙ x));
      },
    )

    take-all : hold_of m.0.pass ≡ None → hold_of (next (told a (look s.words (site a)))) ≡ Some Write → (w : View) × (act : Act (Option V)) × Valid s.homes m.1 act × BoardRule initial_state history t r (stepped s (index (site a)) (put a (look s.words (site a))) id m.1 w act)
        × MovesValues initial_state history next qs slots m (told a (look s.words (site a))) (w, carried_after m.1 act)
    take-all out now = let o = ok.seated id m.0 at in
        let c = collected (IsCurrent initial_state history r ok.total) s.homes (length s.homes) 0 (λ k l u. like k (all-home initial_state history (qs (told a (look s.words (site a)))) t r id m.0 s ok at live q (written s.words a) lawful grown now out k (omega arith))) in let ys = map Some c.0 in (
          view_after (qs (told a (look s.words (site a)))) m.0 (next (told a (look s.words (site a)))) ok.total,
          take_all 0 ys,
          may_take s.homes m.1 0 ys c.2,
          write-ruled initial_state history (qs (told a (look s.words (site a)))) t r id m.0 s ok at live q (written s.words a) lawful grown now out (homes_after s.homes m.1 (take_all 0 ys)),
          record {
            stays = λ e. absurd (none-some (hold_of q) Write (sym e ∙ out) now);
            gains = λ mode x y. by mode (let z : Some Write ≡ Some mode = sym now ∙ y in cc) c (taken m.1 0 ys);
            frees = λ mode x y. absurd (none-some (hold_of m.0.pass) mode out x);
          },
        )
      where
        by : (mode : Mode) → Write ≡ mode → (c : (xs : List V) × (length xs ≡ length s.homes) × AtHome s.homes 0 (map Some xs) × Every (IsCurrent initial_state history r ok.total) xs) → carried_after m.1 (take_all 0 (map Some c.0)) ≡ numbered 0 (map Some c.0) ++ m.1
            → GainsHold initial_state history (qs (told a (look s.words (site a)))) mode slots m (next (told a (look s.words (site a)))) (view_after (qs (told a (look s.words (site a)))) m.0 (next (told a (look s.words (site a)))) ok.total, carried_after m.1 (take_all 0 (map Some c.0)))
        by Write e c got = let o = ok.seated id m.0 at in record {
          values = c.0;
          told = ok.total;
          long = c.1 ∙ long;
          carried = got;
          alike = subst (λ (z : List ℕ). Every (IsCurrent initial_state history z ok.total) c.0) (sym (o.root_is live)) c.3;
          knew = subst (λ k. HasSeen ok.total k m.0.history) (sym num) (o.knew live);
          view = refl;
        }
        by Read e c got = absurd (cc)

    take-own : hold_of m.0.pass ≡ None → hold_of (next (told a (look s.words (site a)))) ≡ Some Read → (w : View) × (act : Act (Option V)) × Valid s.homes m.1 act × BoardRule initial_state history t r (stepped s (index (site a)) (put a (look s.words (site a))) id m.1 w act)
        × MovesValues initial_state history next qs slots m (told a (look s.words (site a))) (w, carried_after m.1 act)
    take-own out now = let home = own-home initial_state history (qs (told a (look s.words (site a)))) t r id m.0 s ok at live q (written s.words a) lawful grown now out in
        let c = collected (IsCurrent initial_state history r ok.total) s.homes (min 1 (slots - id)) id (λ k l u. let e : k ≡ id = omega arith in like k (subst (λ z. IsHome initial_state history r ok.total s.homes z) (sym e) (home (omega arith)))) in let ys = map Some c.0 in let size = length-map c.0 Some in let small = c.1 in (
          view_after (qs (told a (look s.words (site a)))) m.0 (next (told a (look s.words (site a)))) ok.total,
          take_all id ys,
          may_take s.homes m.1 id ys c.2,
          read-ruled initial_state history (qs (told a (look s.words (site a)))) t r id m.0 s ok at live q (written s.words a) lawful grown now out (homes_after s.homes m.1 (take_all id ys)) (taken_length s.homes m.1 id ys)
              (λ k ne. taken_else s.homes m.1 id ys k (dite (dec_lt k id) (λ h. inl h) (λ h. inr (omega arith)))),
          record {
            stays = λ e. absurd (none-some (hold_of q) Read (sym e ∙ out) now);
            gains = λ mode x y. by mode (let z : Some Read ≡ Some mode = sym now ∙ y in cc) c (taken m.1 id ys);
            frees = λ mode x y. absurd (none-some (hold_of m.0.pass) mode out x);
          },
        )
      where
        by : (mode : Mode) → Read ≡ mode → (c : (xs : List V) × (length xs ≡ min 1 (slots - id)) × AtHome s.homes id (map Some xs) × Every (IsCurrent initial_state history r ok.total) xs) → carried_after m.1 (take_all id (map Some c.0)) ≡ numbered id (map Some c.0) ++ m.1
            → GainsHold initial_state history (qs (told a (look s.words (site a)))) mode slots m (next (told a (look s.words (site a)))) (view_after (qs (told a (look s.words (site a)))) m.0 (next (told a (look s.words (site a)))) ok.total, carried_after m.1 (take_all id (map Some c.0)))
        by Read e c got = let o = ok.seated id m.0 at in record {
          values = c.0;
          told = ok.total;
          long = c.1 ∙ ap (λ k. min 1 (slots - k)) (sym num);
          carried = got ∙ ap (λ k. numbered k (map Some c.0) ++ m.1) (sym num);
          alike = subst (λ (z : List ℕ). Every (IsCurrent initial_state history z ok.total) c.0) (sym (o.root_is live)) c.3;
          knew = subst (λ k. HasSeen ok.total k m.0.history) (sym num) (o.knew live);
          view = refl;
        }
        by Write e c got = absurd (cc)

    give-back : hold_of m.0.pass ≡ Some Write → hold_of (next (told a (look s.words (site a)))) ≡ None → MayFree initial_state history Write slots m → (w : View) × (act : Act (Option V)) × Valid s.homes m.1 act × BoardRule initial_state history t r (stepped s (index (site a)) (put a (look s.words (site a))) id m.1 w act)
        × MovesValues initial_state history next qs slots m (told a (look s.words (site a))) (w, carried_after m.1 act)
    give-back was now R = let o = ok.seated id m.0 at in let ys = map Some R.values in let new = common_history history m.0.history R.values in let size = length-map R.values Some in
        let seen : m.0.history ≡ ok.total = o.holder live (λ x. none-some (hold_of m.0.pass) Write x was) in
        let is : homes_after s.homes m.1 (give_all ys) ≡ homes_after s.homes (numbered 0 ys) (give_all ys) = ap (λ d. homes_after s.homes d (give_all ys)) R.carried in
        let wide = R.long in let sized = ap length is ∙ given_length s.homes 0 ys in (
          view_after (qs (told a (look s.words (site a)))) m.0 (next (told a (look s.words (site a)))) new,
          give_all ys,
          may_give s.homes m.1 ys,
          freed-ruled initial_state history (qs (told a (look s.words (site a)))) t r id m.0 s ok at live q (written s.words a) lawful grown was now (homes_after s.homes m.1 (give_all ys)) new
              (λ k small. let e = each_home (IsCurrent initial_state history r new) (homes_after s.homes (numbered 0 ys) (give_all ys)) R.values 0 (given_here s.homes 0 ys (omega arith)) (subst (λ (z : List ℕ). Every (IsCurrent initial_state history z new) R.values) (o.root_is live) R.alike) k (omega arith) (omega arith) in
              (e.0, ap (λ h. get_elem? h k) is ∙ e.1, e.2.0, e.2.1))
              (subst (λ (z : ℕ × List Action). Continues z.0 z.1 new) (λ j. (num j, seen j)) R.grew),
          record {
            stays = λ e. absurd (none-some (hold_of q) Write now (sym e ∙ was));
            gains = λ mode x y. absurd (none-some (hold_of m.0.pass) Write x was);
            frees = λ mode x y i zs says. (ap (λ d. carried_after d (give_all ys)) R.carried ∙ given_all 0 ys, ap (λ (z : List V). view_after (qs (told a (look s.words (site a)))) m.0 (next (told a (look s.words (site a)))) (common_history history m.0.history z)) (same_carried 0 i R.values zs m.1 R.carried says));
          },
        )

    give-own : hold_of m.0.pass ≡ Some Read → hold_of (next (told a (look s.words (site a)))) ≡ None → MayFree initial_state history Read slots m → (w : View) × (act : Act (Option V)) × Valid s.homes m.1 act × BoardRule initial_state history t r (stepped s (index (site a)) (put a (look s.words (site a))) id m.1 w act)
        × MovesValues initial_state history next qs slots m (told a (look s.words (site a))) (w, carried_after m.1 act)
    give-own was now R = let o = ok.seated id m.0 at in let ys = map Some R.values in let new = common_history history m.0.history R.values in let size = length-map R.values Some in
        let seen : m.0.history ≡ ok.total = o.holder live (λ x. none-some (hold_of m.0.pass) Read x was) in
        let same : new ≡ ok.total = R.read refl ∙ seen in
        let carried : m.1 ≡ numbered id ys = R.carried ∙ ap (λ k. numbered k ys) num in
        let is : homes_after s.homes m.1 (give_all ys) ≡ homes_after s.homes (numbered id ys) (give_all ys) = ap (λ d. homes_after s.homes d (give_all ys)) carried in
        let wide = R.long in let sized = ap length is ∙ given_length s.homes id ys in
        let alike : Every (IsCurrent initial_state history r ok.total) R.values = subst (λ (z : List ℕ × List Action). Every (IsCurrent initial_state history z.0 z.1) R.values) (λ j. (o.root_is live j, same j)) R.alike in (
          view_after (qs (told a (look s.words (site a)))) m.0 (next (told a (look s.words (site a)))) ok.total,
          give_all ys,
          may_give s.homes m.1 ys,
          unread-ruled initial_state history (qs (told a (look s.words (site a)))) t r id m.0 s ok at live q (written s.words a) lawful grown was now (homes_after s.homes m.1 (give_all ys)) sized
              (λ k ne. ap (λ h. get_elem? h k) is ∙ given_else s.homes id ys k (dite (dec_lt k id) (λ h. inl h) (λ h. inr (let z = num in omega arith))))
              (λ small. let e = each_home (IsCurrent initial_state history r ok.total) (homes_after s.homes (numbered id ys) (give_all ys)) R.values id (given_here s.homes id ys (let z = num in omega arith)) alike id (omega arith) (let z = num in omega arith) in
              (e.0, ap (λ h. get_elem? h id) is ∙ e.1, e.2.0, e.2.1)),
          record {
            stays = λ e. absurd (none-some (hold_of q) Read now (sym e ∙ was));
            gains = λ mode x y. absurd (none-some (hold_of m.0.pass) Read x was);
            frees = λ mode x y i zs says. (ap (λ d. carried_after d (give_all ys)) carried ∙ given_all id ys, ap (view_after (qs (told a (look s.words (site a)))) m.0 (next (told a (look s.words (site a))))) (sym same) ∙ ap (λ (z : List V). view_after (qs (told a (look s.words (site a)))) m.0 (next (told a (look s.words (site a)))) (common_history history m.0.history z)) (same_carried id i R.values zs m.1 carried says));
          },
        )

    any : (h h' : Option Mode) → hold_of m.0.pass ≡ h → hold_of (next (told a (look s.words (site a)))) ≡ h' → (w : View) × (act : Act (Option V)) × Valid s.homes m.1 act × BoardRule initial_state history t r (stepped s (index (site a)) (put a (look s.words (site a))) id m.1 w act)
        × MovesValues initial_state history next qs slots m (told a (look s.words (site a))) (w, carried_after m.1 act)
    any None None e f = keep (e ∙ sym f)
    any None (Some Write) e f = take-all e f
    any None (Some Read) e f = take-own e f
    any (Some Write) None e f = give-back e f (ready (told a (look s.words (site a))) Write e f)
    any (Some Read) None e f = give-own e f (ready (told a (look s.words (site a))) Read e f)
    any (Some x) (Some y) e f = keep (e ∙ (ap Some (steady (told a (look s.words (site a))) x y e f) ∙ sym f))

  pub value-permits : Permits (BoardRule initial_state history t r) slots id m (λ st m' n m''. MovesValues initial_state history next qs st.slots m' n m'') a
  value-permits s ok long at _ = any s ok long at (hold_of m.0.pass) (hold_of (next (told a (look s.words (site a))))) refl refl

  pub operate-permits : Permits (BoardRule initial_state history t r) slots id m (access_play initial_state history t a next qs) a
  operate-permits s ok long at small = let x = value-permits s ok long at small in
      let there_is : get_elem? (set (passes_from 0 s.views) id (next (told a (look s.words (site a))))) id ≡ some (next (told a (look s.words (site a)))) = set_here (passes_from 0 s.views) id (next (told a (look s.words (site a)))) (there (passes_from 0 s.views) id m.0.pass (pass-there s.views id m.0 at live)) in
      let law_is = lawful s ok long at in (
        x.0,
        x.1,
        x.2,
        x.3,
        (
          record {
            there = record {
              world = world_of s;
              run = record {
                attrs = ok.run.attrs;
                opened = ok.run.opened;
                events = ok.run.events;
                history = ok.total;
                makes = ok.run.makes;
                did = subst (λ k. part_of m.0 ≡ part_in k (did_in t.rules (first_seated ok.run.attrs) k (changes_of ok.run.events))) (sym (num s ok long at)) (ok.run.parts.own id m.0 at live);
                saw = subst (λ k. HasSeen ok.total k m.0.history) (sym (num s ok long at)) ((ok.seated id m.0 at).knew live);
              };
              stands = ap (known (passes_from 0 s.views)) (num s ok long at) ∙ (seen-at (passes_from 0 s.views) id m.0.pass (idle id) (pass-there s.views id m.0 at live)).0;
              word = refl;
            };
            form = λ e. subst (Formed (site a)) (sym (told-found a (look s.words (site a)) e)) (ok.lawful.formed (site a));
            attr = λ e p is. told-found a (look s.words (site a)) e ∙ (ap (look s.words) is ∙ attr-told t (world_of s) p ok.lawful);
            stays = law_is.numbers id (next (told a (look s.words (site a)))) there_is ∙ sym (num s ok long at);
            range = subst (λ k. InRange t k (next (told a (look s.words (site a))))) (sym (num s ok long at))
                (in-range-law t (record { words = written s.words a; passes = set (passes_from 0 s.views) id (next (told a (look s.words (site a)))) }) id (next (told a (look s.words (site a)))) law_is there_is);
          },
          x.4,
        ),
      )

-- the step of a pass, in every phase, park state and form
pub row-permits : {V : Type 0} (initial_state : V → List ℕ) (history : V → List Action) (t : Terms) (r : List ℕ) (slots id : ℕ) (m : Me (Option V) View) (q : PassState) (choice : Bool) → m.0.live ≡ true → SeenAs t.rules.form q m.0.pass → moving q ≡ true
    → ((x : Mode) → hold_of q ≡ Some x → is_releasing q.phase ≡ true → MayFree initial_state history x slots m)
    → Permits (BoardRule initial_state history t r) slots id m (step_play initial_state history t q choice) (plan t.rules (number m.0) q)
row-permits initial_state history t r slots id m q choice live seen goes ready = operate-permits initial_state history t r slots id m (plan t.rules (number m.0) q) (λ i. take t.rules (number m.0) q i choice) (step_deeds t.rules q choice) live
    (λ n. store-blind t.rules (number m.0) q n choice)
    (λ num w ok at. subst (λ k. Lawful t (after_access w id (plan t.rules k q) (take t.rules k q (look w.words (site (plan t.rules k q))) choice))) (sym num) (own-step t w id q m.0.pass ok at seen choice).lawful)
    (λ num w ok at. subst (λ k. GoesOn t.rules w id (step_deeds t.rules q choice (told (plan t.rules k q) (look w.words (site (plan t.rules k q))))) (after_access w id (plan t.rules k q) (take t.rules k q (look w.words (site (plan t.rules k q))) choice))) (sym num) (step-goes-on t.rules w id q m.0.pass choice at seen goes))
    (λ n x y e f. same-mode (is_holding q.phase) (is_holding (take t.rules (number m.0) q n choice).phase) q.reg.mode (take t.rules (number m.0) q n choice).reg.mode x y (take-mode t.rules (number m.0) q n choice) (hold-seen t.rules.form q m.0.pass seen ∙ e) f)
    (λ n x e f. let h = hold-seen t.rules.form q m.0.pass seen ∙ e in ready x h (frees-only t.rules (number m.0) q n choice x h f))
  where
    same-mode : (b c : Bool) (a d x y : Mode) → d ≡ a → cond b (Some a) None ≡ Some x → cond c (Some d) None ≡ Some y → x ≡ y
    same-mode true true a d x y e f g = cc
    same-mode true false a d x y e f g = absurd (cc)
    same-mode false c a d x y e f g = absurd (cc)
