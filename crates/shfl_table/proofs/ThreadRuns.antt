-- An operation of one pass goes on with the run of the board, and with what its seat knows of it.
use Rattle.std.proofs.Common.{◌≡◌, ◌≢◌, ℕ, ◌+◌, ◌≤◌, Bool, true, false, cond, List, [], ◌∷◌, ◌++◌, set, sym, refl, ap, ◌∙◌, subst, ⊎_elim, arith, append-nil, append_assoc, ne_eqb, eq-eqb, length-set, length-append}
use Rattle.std.specs.Prelude.{◌==◌, ◌&&◌}
use mathlib.Core.Option.{some}
use lib.ListN.{get_elem?}
use Rattle.atomic_table.proofs.Lists.{at_set}
use Rattle.shfl_line.specs.declared.events.Mode.{Mode}
use Rattle.shfl_core.specs.declared.phase.Phase.TheVariants.{Idle}
use Rattle.shfl_core.specs.declared.phase.PassState.{PassState}
use Rattle.shfl_core.specs.declared.phase.Rules.{Rules}
use Rattle.shfl_core.specs.Words.{look, site, told}
use Rattle.shfl_core.specs.Plan.{moving, plan, attempt_plan, is_idle, is_resting}
use Rattle.shfl_core.specs.Take.{acquired, released}
use Rattle.shfl_core.specs.Waiting.{MayUse, idle}
use Rattle.shfl_core.specs.Worlds.{World, known, placed_at, stepped, tried, Step}
use Rattle.shfl_core.specs.Lawful.{Terms}
use Rattle.shfl_core.proofs.Lists.{set-again, seen-at}
use Rattle.shfl_laws.specs.Changes.{Change, Moves, Tries, Disables, is_idle_there, after_change, after_changes, EachMayChange}
use Rattle.shfl_laws.specs.Holds.{hold_of}
use Rattle.shfl_laws.specs.Moves.{first_seated}
use Rattle.shfl_laws.specs.Runs.{unseen_move}
use Rattle.shfl_laws.specs.Seen.{SeenAs, Alike, Enters, Leaves}
use Rattle.shfl_laws.specs.Stealing.{disable_plan, stealing_disabled}
use Rattle.shfl_laws.proofs.laws.Holds.{hold-seen}
use Rattle.shfl_laws.proofs.runs.OwnChanges.{stands, step-changes-lead}
use Rattle.shfl_laws.proofs.runs.Runs.{after-both, there-is, tries}
use Rattle.shfl_table.specs.declared.kept.Action.{Action}
use Rattle.shfl_table.specs.declared.view.Decision.{Decision}
use Rattle.shfl_table.specs.declared.view.Part.{Part}
use Rattle.shfl_table.specs.declared.view.View.{View}
use Rattle.shfl_table.specs.MadeInHolds.{RunEvent, changes_of, MakesInHold, RunMakes}
use Rattle.shfl_table.specs.Places.{Every}
use Rattle.shfl_table.specs.Views.{Deeds, step_deeds, attempt_deeds, no_deeds, part_of, passes_from, view_after, IsSpent}
use Rattle.shfl_table.specs.ThreadRuns.{found_there, own_deeds, did_in, attempts_in, decisions_in, found_in, part_in, IsTold, AreApart, TellsParts, HasRun}
use Rattle.shfl_table.proofs.MadeInHolds.{PutsIn, ending, ending-changes, ending-in-holds, ending-makes, changes-both, makes-more}
use Rattle.shfl_table.proofs.Places.{there}
use Rattle.shfl_table.proofs.SeatViews.{passes-set, live-pass, pass-there, dead_stays, not_dead, hold-here, hold-was}

-- one operation of the pass id, as changes: they lead from the world w to another, and are just this operation of this pass
pub record GoesOn (t : Rules) (w : World) (id : ℕ) (d : Deeds) (w' : World) : Type 0 where
  -- the operation is the last of the changes, and the others leave the pass's hold
  pub before : List Change
  pub last : Change
  pub may : EachMayChange t.form (before ++ last ∷ [])
  pub leads : after_changes t w (before ++ last ∷ []) ≡ w'
  pub own : did_in t w id (before ++ last ∷ []) ≡ d ∷ []
  pub others : (k : ℕ) → k ≢ id → did_in t w k (before ++ last ∷ []) ≡ []
  pub holds : hold_of (known (after_changes t w before).passes id) ≡ hold_of (known w.passes id)

-- what is done by two lists of changes, one behind the other
pub did-both : (t : Rules) (w : World) (k : ℕ) (xs ys : List Change) → did_in t w k (xs ++ ys) ≡ did_in t w k xs ++ did_in t (after_changes t w xs) k ys
did-both t w k [] ys = refl
did-both t w k (c ∷ xs) ys = ap (λ (l : List Deeds). own_deeds t w k c ++ l) (did-both t (after_change t w c) k xs ys)
    ∙ sym (append_assoc (own_deeds t w k c) (did_in t (after_change t w c) k xs) (did_in t (after_changes t (after_change t w c) xs) k ys))

-- one change, of the pass p, which is admitted
mine : (p : ℕ) (b : Bool) (ds : List Deeds) → b ≡ true → cond (p == p && b) ds [] ++ [] ≡ ds
mine p b ds e = (λ j. cond (eq-eqb p p refl j && e j) ds [] ++ []) ∙ append-nil ds

theirs : (p k : ℕ) (b : Bool) (ds : List Deeds) → k ≢ p → cond (p == k && b) ds [] ++ [] ≡ []
theirs p k b ds ne = (λ j. cond (ne_eqb p k (λ e. ne (sym e)) j && b) ds [] ++ [])

-- what a move that the others haven't seen yet adds is no operation
unseen-does : (t : Rules) (w : World) (p k : ℕ) (own seen : PassState) (as_seen : SeenAs t.form own seen) → did_in t w k (unseen_move p as_seen) ≡ []
unseen-does t w p k own seen (Alike e) = refl
unseen-does t w p k own seen (Enters m may f e) = refl
unseen-does t w p k own seen (Leaves r e) = refl

-- and changes no word
same-words : (w v : World) (b : Bool) → v.words ≡ w.words → (cond b v w).words ≡ w.words
same-words w v true e = e
same-words w v false e = refl

unseen-words : (t : Rules) (w : World) (p : ℕ) (own seen : PassState) (as_seen : SeenAs t.form own seen) → (after_changes t w (unseen_move p as_seen)).words ≡ w.words
unseen-words t w p own seen (Alike e) = refl
unseen-words t w p own seen (Enters m may f e) = same-words w (placed_at w p (acquired m (known w.passes p))) (is_idle (known w.passes p).phase) refl
unseen-words t w p own seen (Leaves r e) = same-words w (placed_at w p (released (known w.passes p))) (is_resting (known w.passes p)) refl

-- the step of a pass
pub step-goes-on : (t : Rules) (w : World) (p : ℕ) (own seen : PassState) (choice : Bool) → get_elem? w.passes p ≡ some seen → SeenAs t.form own seen → moving own ≡ true → GoesOn t w p (step_deeds t own choice (found_there w (plan t p own))) (stepped t w p own choice)
step-goes-on t w p own seen choice at as_seen goes = let s = step-changes-lead t w p own seen at choice goes as_seen in let v : World = after_changes t w (unseen_move p as_seen) in
    let k : known v.passes p ≡ own = stands t w p own seen at as_seen in let words : v.words ≡ w.words = unseen-words t w p own seen as_seen in
    let split = λ (z : ℕ). did-both t w z (unseen_move p as_seen) (Moves (Step p choice) ∷ []) ∙ ap (λ (l : List Deeds). l ++ did_in t v z (Moves (Step p choice) ∷ [])) (unseen-does t w p z own seen as_seen) in record {
      before = unseen_move p as_seen;
      last = Moves (Step p choice);
      may = s.0;
      leads = s.1;
      own = split p ∙ (mine p (moving (known v.passes p)) (step_deeds t (known v.passes p) choice (found_there v (plan t p (known v.passes p))) ∷ []) (ap moving k ∙ goes)
          ∙ (λ j. step_deeds t (k j) choice (told (plan t p (k j)) (look (words j) (site (plan t p (k j))))) ∷ []));
      others = λ z ne. split z ∙ theirs p z (moving (known v.passes p)) (step_deeds t (known v.passes p) choice (found_there v (plan t p (known v.passes p))) ∷ []) ne;
      holds = ap hold_of k ∙ (hold-seen t.form own seen as_seen ∙ sym (ap hold_of (seen-at w.passes p seen (idle p) at).0));
    }

-- the one operation of an attempt
pub attempt-goes-on : (t : Rules) (w : World) (p : ℕ) (q : PassState) (mode : Mode) → get_elem? w.passes p ≡ some q → q.phase ≡ Idle → MayUse t.form mode → GoesOn t w p (attempt_deeds (found_there w (attempt_plan mode))) (tried w p q mode)
attempt-goes-on t w p q mode at rests may = record {
  before = [];
  last = Tries p mode;
  may = (may, tt);
  leads = tries t w p q mode at rests;
  own = mine p (is_idle_there w p) (attempt_deeds (found_there w (attempt_plan mode)) ∷ []) (there-is w p q at rests).0;
  others = λ z ne. theirs p z (is_idle_there w p) (attempt_deeds (found_there w (attempt_plan mode)) ∷ []) ne;
  holds = refl;
}

-- stealing disabled beside the rows, by a pass that stands as it stood
pub disabling-goes-on : (t : Rules) (w : World) (p : ℕ) (q : PassState) → get_elem? w.passes p ≡ some q → GoesOn t w p (no_deeds (found_there w disable_plan)) (record { words = (stealing_disabled w).words; passes = set w.passes p q })
disabling-goes-on t w p q at = record {
  before = [];
  last = Disables p;
  may = (tt, tt);
  leads = λ j. record { words = (stealing_disabled w).words; passes = sym (set-again w.passes p q at) j };
  own = (λ j. cond (eq-eqb p p refl j) (no_deeds (found_there w disable_plan) ∷ []) [] ++ []);
  others = λ z ne. (λ j. cond (ne_eqb p z (λ e. ne (sym e)) j) (no_deeds (found_there w disable_plan) ∷ []) [] ++ []);
  holds = refl;
}

-- a part that goes on by one operation
attempts-more : (ds : List Deeds) (d : Deeds) → attempts_in (ds ++ d ∷ []) ≡ attempts_in ds + cond d.attempts 1 0
attempts-more [] d = omega arith
attempts-more (x ∷ xs) d = let h = attempts-more xs d in omega arith

found-more : (ds : List Deeds) (d : Deeds) → found_in (ds ++ d ∷ []) ≡ found_in ds ++ d.found ∷ []
found-more [] d = refl
found-more (x ∷ xs) d = ap (λ (l : List ℕ). x.found ∷ l) (found-more xs d)

decisions-more : (ds : List Deeds) (d : Deeds) → decisions_in (ds ++ d ∷ []) ≡ decisions_in ds ++ d.decisions
decisions-more [] d = append-nil d.decisions
decisions-more (x ∷ xs) d = ap (λ (l : List Decision). x.decisions ++ l) (decisions-more xs d) ∙ sym (append_assoc x.decisions (decisions_in xs) d.decisions)

counted : (b : Bool) (n : ℕ) → cond b (n + 1) n ≡ n + cond b 1 0
counted true n = refl
counted false n = omega arith

-- the part of a view after an operation
part-after : (d : Deeds) (v : View) (q : PassState) (seen : List Action) (seat : ℕ) (ds : List Deeds) → part_of v ≡ part_in seat ds → q.reg.me ≡ seat → part_of (view_after d v q seen) ≡ part_in seat (ds ++ d ∷ [])
part-after d v q seen seat ds told num = λ j. record {
  number = num j;
  steps_taken = (ap (λ (x : Part). x.steps_taken + 1) told ∙ sym (length-append ds (d ∷ []))) j;
  found = (ap (λ (x : Part). x.found ++ d.found ∷ []) told ∙ sym (found-more ds d)) j;
  attempts = (counted d.attempts v.attempts ∙ (ap (λ (x : Part). x.attempts + cond d.attempts 1 0) told ∙ sym (attempts-more ds d))) j;
  decisions = (ap (λ (x : Part). x.decisions ++ d.decisions) told ∙ sym (decisions-more ds d)) j;
}

-- what holds of each part, of another world
pub every-part : {A B : Part → Type 0} → ((x : Part) → A x → B x) → (xs : List Part) → Every A xs → Every B xs
every-part f [] h = tt
every-part f (x ∷ xs) h = (f x h.0, every-part f xs h.1)

module _ (t : Terms) (words : List ℕ) (views : List View) (total : List Action) (old : HasRun t words views total) (id : ℕ) (v : View) (at : get_elem? views id ≡ some v) (live : v.live ≡ true) where
  -- the list goes on, and what each pass did in it
  longer : (added : List Change) (k : ℕ) → did_in t.rules (first_seated old.attrs) k (changes_of old.events ++ added) ≡ did_in t.rules (first_seated old.attrs) k (changes_of old.events) ++ did_in t.rules (record { words = words; passes = passes_from 0 views }) k added
  longer added k = did-both t.rules (first_seated old.attrs) k (changes_of old.events) added
      ∙ ap (λ (w : World). did_in t.rules (first_seated old.attrs) k (changes_of old.events) ++ did_in t.rules w k added) old.makes.run.made

  -- an operation that ends a hold does so at its last change
  ends-there : (d : Deeds) (q : PassState) (words' : List ℕ) (total' : List Action) (g : GoesOn t.rules (record { words = words; passes = passes_from 0 views }) id d (record { words = words'; passes = set (passes_from 0 views) id q })) (puts : PutsIn id v.pass q total total')
      → MakesInHold t.rules (after_changes t.rules (record { words = words; passes = passes_from 0 views }) g.before) (record { change = g.last; made = puts.grew.0 })
  ends-there d q words' total' g puts made = let w : World = record { words = words; passes = passes_from 0 views } in let here : get_elem? (passes_from 0 views) id ≡ some v.pass = pass-there views id v at live in
      let h = puts.ends made in record {
        worker = id;
        wrote = g.holds ∙ (hold-was (passes_from 0 views) id v.pass q here ∙ h.0);
        ended = ap (λ (z : World). hold_of (known z.passes id)) (sym (after-both t.rules w g.before (g.last ∷ [])) ∙ g.leads) ∙ (hold-here (passes_from 0 views) id v.pass q here ∙ h.1);
        own = puts.grew.2;
      }

  -- an operation of a pass goes on with the run
  pub run-after : (d : Deeds) (q : PassState) (words' : List ℕ) (seen total' : List Action) → q.reg.me ≡ id → GoesOn t.rules (record { words = words; passes = passes_from 0 views }) id d (record { words = words'; passes = set (passes_from 0 views) id q })
      → PutsIn id v.pass q total total' → HasRun t words' (set views id (view_after d v q seen)) total'
  run-after d q words' seen total' num g puts = let w : View = view_after d v q seen in let vs : List View = set views id w in let cs : List Change = changes_of old.events in let more : List Change = g.before ++ g.last ∷ [] in let own : List Action = puts.grew.0 in
      let added : List RunEvent = ending g.before g.last own in let same : changes_of added ≡ more = ending-changes g.before g.last own in let all : cs ++ more ≡ changes_of (old.events ++ added) = ap (λ (l : List Change). cs ++ l) (sym same) ∙ sym (changes-both old.events added) in
      let W : World = record { words = words; passes = passes_from 0 views } in
      let passes : passes_from 0 vs ≡ set (passes_from 0 views) id q = passes-set 0 views id w ∙ ap (set (passes_from 0 views) id) (live-pass (0 + id) w live) in
      let did : ℕ → List Deeds = λ k. did_in t.rules (first_seated old.attrs) k cs in
      let did' : ℕ → List Deeds = λ k. did_in t.rules (first_seated old.attrs) k (cs ++ more) in
      let mine : did' id ≡ did id ++ d ∷ [] = longer more id ∙ ap (λ (l : List Deeds). did id ++ l) g.own in
      let theirs : (k : ℕ) → k ≢ id → did' k ≡ did k = λ k ne. longer more k ∙ (ap (λ (l : List Deeds). did k ++ l) (g.others k ne) ∙ append-nil (did k)) in
      let parts : (xs : List Part) → Every (λ (x : Part). IsSpent views x.number × IsTold did x) xs → Every (λ (x : Part). IsSpent vs x.number × IsTold did' x) xs = every-part (λ x h.
      let ne = not_dead views id v at live x.number h.0 in (dead_stays views id v w at live x.number h.0, h.1 ∙ ap (part_in x.number) (sym (theirs x.number ne)))) in record {
        attrs = old.attrs;
        opened = old.opened;
        events = old.events ++ added;
        makes = subst (λ (z : List PassState × List Action). RunMakes t.rules old.attrs (old.events ++ added) (record { words = words'; passes = z.0 }) z.1) (λ j. (sym passes j, (ap (λ (l : List Action). total ++ l) (ending-makes g.before g.last own) ∙ sym puts.grew.1) j))
            (makes-more t.rules old.attrs old.events added more W (record { words = words'; passes = set (passes_from 0 views) id q }) total old.makes same g.may g.leads
            (ending-in-holds t.rules W g.before g.last own (ends-there d q words' total' g puts)));
        parts = subst (λ (l : List Change). TellsParts (λ k. did_in t.rules (first_seated old.attrs) k l) vs) all (record {
          own = λ seat u e l. ⊎_elim
              (λ p. subst (λ (z : ℕ × View). part_of z.1 ≡ part_in z.0 (did' z.0)) (λ i. (sym p.0 i, p.1 i)) (part-after d v q seen id (did id) (old.parts.own id v at live) num ∙ ap (part_in id) (sym mine)))
              (λ p. old.parts.own seat u p.1 l ∙ ap (part_in seat) (sym (theirs seat p.0)))
              (at_set views id seat w u e);
          back = λ seat u e. ⊎_elim
              (λ p. parts u.parts (subst (λ (z : View). Every (λ (x : Part). IsSpent views x.number × IsTold did x) z.parts) p.1 (old.parts.back id v at)))
              (λ p. parts u.parts (old.parts.back seat u p.1))
              (at_set views id seat w u e);
          apart = λ seat u e. ⊎_elim (λ p. subst (λ (z : View). AreApart z.parts) p.1 (old.parts.apart id v at)) (λ p. old.parts.apart seat u p.1) (at_set views id seat w u e);
          unborn = λ k h. theirs k (λ is. absurd (let x = there views id v at in let y = length-set views id w in omega arith)) ∙ old.parts.unborn k (subst (λ n. n ≤ k) (length-set views id w) h);
        });
      }
