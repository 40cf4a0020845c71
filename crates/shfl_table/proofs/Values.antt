-- A pass whose hold comes, goes or stays, by an operation that goes on with the run, in a world that stays lawful: the rule is kept, with the values.
use Rattle.std.proofs.Common.{◌≡◌, ◌≢◌, ℕ, ◌+◌, ◌<◌, ◌≤◌, true, List, [], length, set, Option, Some, None, sym, refl, ap, ◌∙◌, subst, inl, inr, ⊎_elim, arith, length-set}
use mathlib.Core.Logic.{dite}
use native.Mathlib.Decide.{ℕ_discrete}
use mathlib.Core.Option.{some}
use lib.ListN.{get_elem?}
use Rattle.atomic_table.specs.Table.{State}
use Rattle.atomic_table.proofs.Lists.{set_here}
use Rattle.shfl_line.specs.declared.events.Mode.TheVariants.{Write, Read}
use Rattle.shfl_core.specs.declared.phase.PassState.{PassState}
use Rattle.shfl_core.specs.Waiting.{idle}
use Rattle.shfl_core.specs.Worlds.{known}
use Rattle.shfl_core.specs.Lawful.{Terms, Lawful}
use Rattle.shfl_core.proofs.Lists.{seen-at}
use Rattle.shfl_table.proofs.Places.{there}
use Rattle.shfl_laws.specs.Holds.{hold_of}
use Rattle.shfl_table.specs.Histories.{Continues, HasSeen, actions_by}
use Rattle.shfl_table.specs.declared.kept.Action.{Action}
use Rattle.shfl_table.specs.declared.view.View.{View}
use Rattle.shfl_table.specs.Views.{Deeds, passes_from, view_after}
use Rattle.shfl_table.specs.BoardRule.{AreHome, BoardRule, Homes, IsHome, SeatFacts, world_of}
use Rattle.shfl_laws.proofs.laws.Holds.{alone}
use Rattle.shfl_table.proofs.Histories.{knew_itself, knew_more}
use Rattle.shfl_table.proofs.MadeInHolds.{PutsIn, puts-nothing}
use Rattle.shfl_table.proofs.ThreadRuns.{GoesOn, run-after}
use Rattle.shfl_table.proofs.SeatViews.{passes-set, live-pass, pass-there, seated_after, none-some, write-read, hold-here, hold-was, hold-else, hold-same}

-- a pass, whose seat knows v and carries c, goes to q, and the world stays lawful
module _ {V : Type 0} (initial_state : V → List ℕ) (history : V → List Action) (qs : Deeds) (t : Terms) (r : List ℕ) (id : ℕ) (v : View) (s : State (Option V) View) (ok : BoardRule initial_state history t r s) (at : get_elem? s.views id ≡ some v) (live : v.live ≡ true)
    (q : PassState) (words : List ℕ) (law : Lawful t (record { words = words; passes = set (passes_from 0 s.views) id q }))
    (grown : GoesOn t.rules (world_of s) id qs (record { words = words; passes = set (passes_from 0 s.views) id q })) where
  abbrev P : List PassState
  P = passes_from 0 s.views

  here : get_elem? (passes_from 0 s.views) id ≡ some v.pass
  here = pass-there s.views id v at live

  abbrev P' : List PassState
  P' = set (passes_from 0 s.views) id q

  abbrev Whole : Type 0
  Whole = State (Option V) View

  ruled-of : (homes : Homes V) (total seen : List Action) → PutsIn id v.pass q ok.total total → AreHome initial_state history r total (set (passes_from 0 s.views) id q) homes → ((k : ℕ) → length s.views ≤ k → actions_by k total ≡ [])
      → ((seat : ℕ) (u : View) → get_elem? (set s.views id (view_after qs v q seen)) seat ≡ some u → SeatFacts r total (set s.views id (view_after qs v q seen)) seat u)
      → BoardRule initial_state history t r (record { words = words; homes = homes; views = set s.views id (view_after qs v q seen) })
  ruled-of homes total seen puts free unborn seated = let w : View = view_after qs v q seen in
      let passes : passes_from 0 (set s.views id w) ≡ set (passes_from 0 s.views) id q = passes-set 0 s.views id w ∙ ap (set (passes_from 0 s.views) id) (live-pass (0 + id) w live) in record {
        total = total;
        lawful = subst (λ (l : List PassState). Lawful t (record { words = words; passes = l })) (sym passes) law;
        run = run-after t s.words s.views ok.total ok.run id v at live qs q words seen total (law.numbers id q (set_here (passes_from 0 s.views) id q (there (passes_from 0 s.views) id v.pass here))) grown puts;
        free = subst (λ (l : List PassState). AreHome initial_state history r total l homes) (sym passes) free;
        unborn = λ k h. unborn k (subst (λ n. n ≤ k) (length-set s.views id w) h);
        seated = seated;
      }

  -- the history stays that of the rule, whatever this pass now sees of it
  same-total : (seen : List Action) → HasSeen ok.total id seen → (hold_of q ≢ None → seen ≡ ok.total)
      → (seat : ℕ) (u : View) → get_elem? (set s.views id (view_after qs v q seen)) seat ≡ some u → SeatFacts r ok.total (set s.views id (view_after qs v q seen)) seat u
  same-total seen knew held = seated_after r id s.views v (view_after qs v q seen) ok.total ok.total at live ok.seated live refl refl refl (λ k u ne x. x) knew held (λ seat u ne there_is l h e. e)

  -- the hold stays as it was
  pub stays-ruled : hold_of v.pass ≡ hold_of q → BoardRule initial_state history t r (record { words = words; homes = s.homes; views = set s.views id (view_after qs v q v.history) })
  stays-ruled e = let o = ok.seated id v at in let same = hold-same (passes_from 0 s.views) id v.pass q here e in
      ruled-of s.homes ok.total v.history (puts-nothing id v.pass q ok.total)
      (λ none k small. ⊎_elim (λ x. inl (same k ∙ x)) (λ x. inr x) (ok.free (λ p h. none p (same p ∙ h)) k small))
      ok.unborn (same-total v.history (o.knew live) (λ h. o.holder live (λ x. h (sym e ∙ x))))

  -- the pass writes: nobody else holds
  module _ (gains : hold_of q ≡ Some Write) (none : hold_of v.pass ≡ None) where
    pub all-home : (k : ℕ) → k < length s.homes → IsHome initial_state history r ok.total s.homes k
    all-home k small = ⊎_elim (λ x. absurd (none-some (hold_of (known (passes_from 0 s.views) k)) Read (nobody k) x)) (λ x. x) (ok.free (λ p h. none-some (hold_of (known (passes_from 0 s.views) p)) Write (nobody p) h) k small)
      where
        nobody : (p : ℕ) → hold_of (known (passes_from 0 s.views) p) ≡ None
        nobody p = dite (ℕ_discrete p id)
            (λ is. ap (λ z. hold_of (known (passes_from 0 s.views) z)) is ∙ (hold-was (passes_from 0 s.views) id v.pass q here ∙ none))
            (λ ne. sym (hold-else (passes_from 0 s.views) id v.pass q here p ne)
            ∙ alone t (record { words = words; passes = set (passes_from 0 s.views) id q }) law id p (hold-here (passes_from 0 s.views) id v.pass q here ∙ gains) ne)

    pub write-ruled : (homes : Homes V) → BoardRule initial_state history t r (record { words = words; homes = homes; views = set s.views id (view_after qs v q ok.total) })
    write-ruled homes = ruled-of homes ok.total ok.total (puts-nothing id v.pass q ok.total)
        (λ free k small. absurd (free id (hold-here (passes_from 0 s.views) id v.pass q here ∙ gains)))
        ok.unborn (same-total ok.total (knew_itself id ok.total) (λ h. refl))

  -- the pass reads: nobody writes
  module _ (gains : hold_of q ≡ Some Read) (none : hold_of v.pass ≡ None) where
    no-writer : (p : ℕ) → hold_of (known (passes_from 0 s.views) p) ≢ Some Write
    no-writer p h = dite (ℕ_discrete p id)
        (λ is. none-some (hold_of (known (passes_from 0 s.views) p)) Write (ap (λ z. hold_of (known (passes_from 0 s.views) z)) is ∙ (hold-was (passes_from 0 s.views) id v.pass q here ∙ none)) h)
        (λ ne. none-some (hold_of q) Read (sym (hold-here (passes_from 0 s.views) id v.pass q here)
        ∙ alone t (record { words = words; passes = set (passes_from 0 s.views) id q }) law p id (hold-else (passes_from 0 s.views) id v.pass q here p ne ∙ h) (λ e. ne (sym e))) gains)

    pub own-home : id < length s.homes → IsHome initial_state history r ok.total s.homes id
    own-home small = ⊎_elim (λ x. absurd (none-some (hold_of (known (passes_from 0 s.views) id)) Read (hold-was (passes_from 0 s.views) id v.pass q here ∙ none) x)) (λ x. x) (ok.free no-writer id small)

    pub read-ruled : (homes : Homes V) → length homes ≡ length s.homes → ((k : ℕ) → k ≢ id → get_elem? homes k ≡ get_elem? s.homes k) → BoardRule initial_state history t r (record { words = words; homes = homes; views = set s.views id (view_after qs v q ok.total) })
    read-ruled homes long same = ruled-of homes ok.total ok.total (puts-nothing id v.pass q ok.total)
        (λ free k small. dite (ℕ_discrete k id)
        (λ is. inl (ap (λ z. hold_of (known (set (passes_from 0 s.views) id q) z)) is ∙ (hold-here (passes_from 0 s.views) id v.pass q here ∙ gains)))
        (λ ne. ⊎_elim (λ x. inl (hold-else (passes_from 0 s.views) id v.pass q here k ne ∙ x)) (λ x. inr (x.0, same k ne ∙ x.1, x.2, x.3)) (ok.free no-writer k (subst (λ n. k < n) long small))))
        ok.unborn (same-total ok.total (knew_itself id ok.total) (λ h. refl))

  -- a writer frees the lock: nobody holds
  module _ (was : hold_of v.pass ≡ Some Write) (now : hold_of q ≡ None) where
    nobody-else : (p : ℕ) → p ≢ id → hold_of (known (passes_from 0 s.views) p) ≡ None
    nobody-else p ne = alone t (world_of s) ok.lawful id p (hold-was (passes_from 0 s.views) id v.pass q here ∙ was) ne

    pub freed-ruled : (homes : Homes V) (new : List Action) → ((k : ℕ) → k < length homes → IsHome initial_state history r new homes k) → Continues id ok.total new → BoardRule initial_state history t r (record { words = words; homes = homes; views = set s.views id (view_after qs v q new) })
    freed-ruled homes new homed grew = ruled-of homes new new (record { grew = grew; ends = λ _. (was, now) }) (λ free k small. inr (homed k small))
        (λ k h. (knew_more id k ok.total new ok.total grew (λ is. absurd (let x = there s.views id v at in omega arith)) (knew_itself k ok.total)).1 ∙ ok.unborn k h)
        (seated_after r id s.views v (view_after qs v q new) ok.total new at live ok.seated live refl refl refl (λ k u ne know. knew_more id k ok.total new u grew ne know) (knew_itself id new) (λ _. refl)
        (λ seat u ne there_is l h e. absurd (h (sym (ap hold_of (seen-at (passes_from 0 s.views) seat u.pass (idle seat) (pass-there s.views seat u there_is l)).0) ∙ nobody-else seat ne))))

  -- a reader frees the lock
  module _ (was : hold_of v.pass ≡ Some Read) (now : hold_of q ≡ None) where
    pub unread-ruled : (homes : Homes V) → length homes ≡ length s.homes → ((k : ℕ) → k ≢ id → get_elem? homes k ≡ get_elem? s.homes k) → (id < length homes → IsHome initial_state history r ok.total homes id)
        → BoardRule initial_state history t r (record { words = words; homes = homes; views = set s.views id (view_after qs v q ok.total) })
    unread-ruled homes long same homed = ruled-of homes ok.total ok.total (puts-nothing id v.pass q ok.total)
        (λ free k small. dite (ℕ_discrete k id)
        (λ is. inr (subst (λ z. IsHome initial_state history r ok.total homes z) (sym is) (homed (subst (λ z. z < length homes) is small))))
        (λ ne. ⊎_elim (λ x. inl (hold-else (passes_from 0 s.views) id v.pass q here k ne ∙ x)) (λ x. inr (x.0, same k ne ∙ x.1, x.2, x.3)) (ok.free no-writers k (subst (λ n. k < n) long small))))
        ok.unborn (same-total ok.total (knew_itself id ok.total) (λ h. absurd (h now)))
      where
        no-writers : (p : ℕ) → hold_of (known (passes_from 0 s.views) p) ≢ Some Write
        no-writers p h = dite (ℕ_discrete p id)
            (λ is. write-read (hold_of (known (passes_from 0 s.views) p)) h (ap (λ z. hold_of (known (passes_from 0 s.views) z)) is ∙ (hold-was (passes_from 0 s.views) id v.pass q here ∙ was)))
            (λ ne. none-some (hold_of (known (passes_from 0 s.views) id)) Read (alone t (world_of s) ok.lawful p id h (λ e. ne (sym e))) (hold-was (passes_from 0 s.views) id v.pass q here ∙ was))
