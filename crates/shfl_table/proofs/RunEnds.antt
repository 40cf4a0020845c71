-- The run of a board where a seat splits off another, where a pass is given back, and at the end.
use Rattle.std.proofs.Common.{◌≡◌, ◌≢◌, ℕ, ◌+◌, ◌<◌, ◌≤◌, true, false, List, [], ◌∷◌, ◌++◌, length, set, sym, refl, ap, ◌∙◌, subst, ⊎_elim, arith, append-nil, length-set, length-append}
use mathlib.Core.Option.{some}
use lib.ListN.{get_elem?}
use Rattle.atomic_table.proofs.Lists.{at_set}
use Rattle.shfl_core.specs.declared.phase.Phase.TheVariants.{Idle}
use Rattle.shfl_core.specs.Plan.{is_idle}
use Rattle.shfl_core.specs.Words.{wide}
use Rattle.shfl_core.specs.Waiting.{blank, idle}
use Rattle.shfl_core.specs.Worlds.{World, known}
use Rattle.shfl_core.specs.Lawful.{Terms}
use Rattle.shfl_laws.specs.Changes.{Change, Fills, Replaces, after_changes, EachMayChange}
use Rattle.shfl_laws.specs.Moves.{first_seated}
use Rattle.shfl_laws.proofs.runs.Runs.{fills, replaces}
use Rattle.shfl_table.specs.declared.kept.Action.{Action}
use Rattle.shfl_table.specs.declared.view.Part.{Part}
use Rattle.shfl_table.specs.declared.view.View.{View}
use Rattle.shfl_table.specs.MadeInHolds.{changes_of, RunMakes}
use Rattle.shfl_table.specs.Places.{Every}
use Rattle.shfl_table.specs.Views.{Deeds, number, next_view, not_last, part_of, passes_from, spent_view, with_given, IsSpent}
use Rattle.shfl_table.specs.ThreadRuns.{did_in, part_in, IsTold, AreApart, TellsParts, HasRun, RanUntilClosed}
use Rattle.shfl_table.proofs.MadeInHolds.{quiet, quiet-changes, quiet-in-holds, quiet-makes, changes-both, makes-more}
use Rattle.shfl_table.proofs.SeatViews.{dead_longer, dead_stays, not_dead, at_end}
use Rattle.shfl_table.proofs.ThreadRuns.{did-both, every-part}

module _ (t : Terms) (words : List ℕ) (views : List View) (total : List Action) (old : HasRun t words views total) where
  abbrev did : ℕ → List Deeds
  did k = did_in t.rules (first_seated old.attrs) k (changes_of old.events)

  -- changes that are nobody's operation go on with the run, and leave what each pass did, and what was made
  still-told : (added : List Change) (views' : List View) → EachMayChange t.rules.form added → after_changes t.rules (record { words = words; passes = passes_from 0 views }) added ≡ record { words = words; passes = passes_from 0 views' }
      → ((k : ℕ) → did_in t.rules (record { words = words; passes = passes_from 0 views }) k added ≡ []) → TellsParts (λ k. did_in t.rules (first_seated old.attrs) k (changes_of old.events)) views' → HasRun t words views' total
  still-told added views' may leads nobody tells = record {
    attrs = old.attrs;
    opened = old.opened;
    events = old.events ++ quiet added;
    makes = subst (λ (l : List Action). RunMakes t.rules old.attrs (old.events ++ quiet added) (record { words = words; passes = passes_from 0 views' }) l) (ap (λ (l : List Action). total ++ l) (quiet-makes added) ∙ append-nil total)
        (makes-more t.rules old.attrs old.events (quiet added) added (record { words = words; passes = passes_from 0 views }) (record { words = words; passes = passes_from 0 views' }) total old.makes (quiet-changes added) may leads
        (quiet-in-holds t.rules (record { words = words; passes = passes_from 0 views }) added));
    parts = subst (λ (f : ℕ → List Deeds). TellsParts f views') (λ j k. same k j) tells;
  }
    where
      same : (k : ℕ) → did_in t.rules (first_seated old.attrs) k (changes_of old.events) ≡ did_in t.rules (first_seated old.attrs) k (changes_of (old.events ++ quiet added))
      same k = let cs : List Change = changes_of old.events in sym (ap (did_in t.rules (first_seated old.attrs) k) (changes-both old.events (quiet added) ∙ ap (λ (l : List Change). cs ++ l) (quiet-changes added))
          ∙ (did-both t.rules (first_seated old.attrs) k cs added
          ∙ (ap (λ (w : World). did_in t.rules (first_seated old.attrs) k cs ++ did_in t.rules w k added) old.makes.run.made
          ∙ (ap (λ (l : List Deeds). did_in t.rules (first_seated old.attrs) k cs ++ l) (nobody k) ∙ append-nil (did_in t.rules (first_seated old.attrs) k cs)))))

  -- where the parts stay as they are, and spent seats stay spent
  kept-parts : (views' : List View) → ((k : ℕ) → IsSpent views k → IsSpent views' k) → (xs : List Part) → Every (λ (x : Part). IsSpent views x.number × IsTold (λ k. did_in t.rules (first_seated old.attrs) k (changes_of old.events)) x) xs
      → Every (λ (x : Part). IsSpent views' x.number × IsTold (λ k. did_in t.rules (first_seated old.attrs) k (changes_of old.events)) x) xs
  kept-parts views' stays = every-part (λ x h. (stays x.number h.0, h.1))

  -- the last pass splits off the next
  pub run-splits : (id : ℕ) (v : View) → get_elem? views id ≡ some v → v.live ≡ true → number v + 1 ≡ length views → wide (length (passes_from 0 views)) < length words
      → passes_from 0 views ++ idle (length (passes_from 0 views)) ∷ [] ≡ passes_from 0 (set views id (not_last v) ++ next_view v ∷ []) → HasRun t words (set views id (not_last v) ++ next_view v ∷ []) total
  run-splits id v at live long room same = let l : View = not_last v in let n : View = next_view v in let vs : List View = set views id l in
      let stays : (k : ℕ) → IsSpent views k → IsSpent (vs ++ n ∷ []) k = λ k d. dead_longer vs n k (dead_stays views id v l at live k d) in
      let size : length vs ≡ length views = length-set views id l in
      still-told (Fills ∷ []) (vs ++ n ∷ []) (tt, tt) (fills t.rules (record { words = words; passes = passes_from 0 views }) room ∙ (λ j. record { words = words; passes = same j })) (λ k. refl) (record {
        own = λ seat u e li. ⊎_elim
            (λ p. ⊎_elim
            (λ q. subst (λ (z : ℕ × View). part_of z.1 ≡ part_in z.0 (did z.0)) (λ i. (sym q.0 i, q.1 i)) (old.parts.own id v at live))
            (λ q. old.parts.own seat u q.1 li)
            (at_set views id seat l u p.1))
            (λ p. subst (λ (z : ℕ × View). part_of z.1 ≡ part_in z.0 (did z.0)) (λ i. (sym p.0 i, p.1 i))
            (let none : did (length vs) ≡ [] = old.parts.unborn (length vs) (omega arith) in let num : number v + 1 ≡ length vs = omega arith in (λ j. part_in (num j) (sym none j))))
            (at_end vs n u seat e);
        back = λ seat u e. ⊎_elim
            (λ p. ⊎_elim
            (λ q. kept-parts (vs ++ n ∷ []) stays u.parts (subst (λ (z : View). Every (λ (x : Part). IsSpent views x.number × IsTold did x) z.parts) q.1 (old.parts.back id v at)))
            (λ q. kept-parts (vs ++ n ∷ []) stays u.parts (old.parts.back seat u q.1))
            (at_set views id seat l u p.1))
            (λ p. subst (λ (z : View). Every (λ (x : Part). IsSpent (vs ++ n ∷ []) x.number × IsTold did x) z.parts) p.1 tt)
            (at_end vs n u seat e);
        apart = λ seat u e. ⊎_elim
            (λ p. ⊎_elim
            (λ q. subst (λ (z : View). AreApart z.parts) q.1 (old.parts.apart id v at))
            (λ q. old.parts.apart seat u q.1)
            (at_set views id seat l u p.1))
            (λ p. subst (λ (z : View). AreApart z.parts) p.1 tt)
            (at_end vs n u seat e);
        unborn = λ k h. old.parts.unborn k (let a = length-append vs (n ∷ []) in omega arith);
      })

  -- an idle pass is given back to another
  pub run-joins : (id : ℕ) (v : View) (other : ℕ) (w : View) → get_elem? views id ≡ some v → v.live ≡ true → get_elem? views other ≡ some w → w.live ≡ true → other ≢ id → number w ≡ other
      → get_elem? (passes_from 0 views) other ≡ some w.pass → w.pass.phase ≡ Idle → passes_from 0 (set (set views id (with_given v w)) other spent_view) ≡ set (passes_from 0 views) other (idle other)
      → get_elem? (set views id (with_given v w)) other ≡ some w → IsSpent (set (set views id (with_given v w)) other spent_view) (number w) → HasRun t words (set (set views id (with_given v w)) other spent_view) total
  run-joins id v other w at live at' live' apart num here rests gone at'' now = let b : View = with_given v w in let vs : List View = set views id b in let vs' : List View = set vs other spent_view in
      let stays : (k : ℕ) → IsSpent views k → IsSpent vs' k = λ k d. dead_stays vs other w spent_view at'' live' k (dead_stays views id v b at live k d) in
      let size : length vs' ≡ length views = length-set vs other spent_view ∙ length-set views id b in
      still-told (Replaces other (blank other) ∷ []) vs' (tt, tt) (replaces t.rules (record { words = words; passes = passes_from 0 views }) other w.pass here rests ∙ (λ j. record { words = words; passes = sym gone j })) (λ k. refl) (record {
        own = λ seat u e li. ⊎_elim
            (λ p. absurd (let x : false ≡ true = ap (λ (z : View). z.live) p.1 ∙ li in cc))
            (λ p. ⊎_elim
            (λ q. subst (λ (z : ℕ × View). part_of z.1 ≡ part_in z.0 (did z.0)) (λ i. (sym q.0 i, q.1 i)) (old.parts.own id v at live))
            (λ q. old.parts.own seat u q.1 li)
            (at_set views id seat b u p.1))
            (at_set vs other seat spent_view u e);
        back = λ seat u e. ⊎_elim
            (λ p. subst (λ (z : View). Every (λ (x : Part). IsSpent vs' x.number × IsTold did x) z.parts) p.1 tt)
            (λ p. ⊎_elim
            (λ q. subst (λ (z : View). Every (λ (x : Part). IsSpent vs' x.number × IsTold did x) z.parts) q.1
            ((now, old.parts.own other w at' live' ∙ (λ j. part_in (sym num j) (did (sym num j)))), kept-parts vs' stays v.parts (old.parts.back id v at)))
            (λ q. kept-parts vs' stays u.parts (old.parts.back seat u q.1))
            (at_set views id seat b u p.1))
            (at_set vs other seat spent_view u e);
        apart = λ seat u e. ⊎_elim
            (λ p. subst (λ (z : View). AreApart z.parts) p.1 tt)
            (λ p. ⊎_elim
            (λ q. subst (λ (z : View). AreApart z.parts) q.1
            (every-part (λ x h e. not_dead views other w at' live' x.number h.0 (e ∙ num)) v.parts (old.parts.back id v at), old.parts.apart id v at))
            (λ q. old.parts.apart seat u q.1)
            (at_set views id seat b u p.1))
            (at_set vs other seat spent_view u e);
        unborn = λ k h. old.parts.unborn k (omega arith);
      })

  every-end : (P : Part → Type 0) (xs : List Part) (y : Part) → Every P xs → P y → Every P (xs ++ y ∷ [])
  every-end P [] y h e = (e, tt)
  every-end P (x ∷ xs) y h e = (h.0, every-end P xs y h.1 e)

  -- the part of one more pass
  apart-end : (xs : List Part) (y : Part) → AreApart xs → Every (λ (x : Part). x.number ≢ y.number) xs → AreApart (xs ++ y ∷ [])
  apart-end [] y a h = (tt, tt)
  apart-end (x ∷ xs) y a h = (every-end (λ (z : Part). z.number ≢ x.number) xs y a.0 (λ e. h.0 (sym e)), apart-end xs y a.1 h.1)

  -- once all are given back
  pub run-closes : (id : ℕ) (v : View) (n : ℕ) → get_elem? views id ≡ some v → v.live ≡ true → number v ≡ id → length views ≤ n → ((k : ℕ) → (known (passes_from 0 views) k).phase ≡ Idle)
      → RanUntilClosed t.rules t.attrs n (v.parts ++ part_of v ∷ []) total
  run-closes id v n at live num few rest = record {
    attrs = old.attrs;
    opened = old.opened;
    ran = record {
      events = old.events;
      world = record { words = words; passes = passes_from 0 views };
      makes = old.makes;
      idle = λ k. ap is_idle (rest k);
    };
    told = every-end (IsTold (λ k. did_in t.rules (first_seated old.attrs) k (changes_of old.events))) v.parts (part_of v) (every-part (λ x h. h.1) v.parts (old.parts.back id v at))
        (old.parts.own id v at live ∙ (λ j. part_in (sym num j) (did (sym num j))));
    apart = apart-end v.parts (part_of v) (old.parts.apart id v at) (every-part (λ x h e. not_dead views id v at live x.number h.0 (e ∙ num)) v.parts (old.parts.back id v at));
    nobody_else = λ k h. old.parts.unborn k (omega arith);
  }
