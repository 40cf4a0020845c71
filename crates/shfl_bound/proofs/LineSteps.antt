-- No event of the line raises the potential of a queued pass, and each departure of another lowers it.
use Rattle.std.proofs.Common.{◌≡◌, ◌≢◌, ℕ, zero, suc, ◌+◌, ◌-◌, ◌<◌, ◌≤◌, ◌⊎◌, List, [], ◌∷◌, ◌++◌, refl, sym, ap, ◌∙◌, inl, inr, subst, ⊎_elim, length, arith}
use Rattle.std.specs.Prelude.{slice_index, slice_set}
use Rattle.std.proofs.lemmas.Bool.Decides.{nat_tests}
use Rattle.shfl_line.specs.declared.events.LineEvent.{LineEvent}
use Rattle.shfl_line.specs.declared.events.LineEvent.TheVariants as event
use Rattle.shfl_line.specs.Words.{link_word}
use Rattle.shfl_line.specs.Passes.{updated, times, EachPair, MarkedFirst, last_marked, follower, without, put_behind}
use Rattle.shfl_line.specs.Line.{Line, mark_of, active_shuffler, IsOfPasses, IsWellFormed}
use Rattle.shfl_line.specs.Steps.{MayBegin, begun_mark, batch_end, Admits, after}
use Rattle.shfl_line.proofs.Chain
use Rattle.shfl_line.proofs.Marks.{none-marked}
use Rattle.shfl_line.proofs.Behind.{last-inside, follower-inside}
use Rattle.shfl_line.proofs.Batches.{mark-set, behind-unmarked}
use Rattle.shfl_line.proofs.KeptLine.{tail-of, first-out}
use Rattle.shfl_bound.specs.Departures.{Waits, leaver}
use Rattle.shfl_bound.proofs.Potential.{potential}
use Rattle.shfl_bound.proofs.LineEdits.{join-same, chosen-lower, out-lower, put-same, leave-lower}
use Rattle.shfl_bound.proofs.LineMarks.{begin-lower, keep-lower}

-- what is known of the waiter that is being moved up, which is given as that pass plus 1, or 0
pub record MovedUp (s : Line) (moved : ℕ) : Type 0 where
  -- the detached waiter is moved up
  pub detached : (y : ℕ) → link_word s.hand ≡ suc y → moved ≡ suc y
  -- it has no batch number yet, and a batch stands
  pub unmarked : (y : ℕ) → moved ≡ suc y → mark_of s y ≡ 0
  pub batch : 0 < moved → 0 < last_marked (mark_of s) s.line

-- a waiter that stands directly behind the batch's last is chosen
pub record Chosen (s : Line) (old new : ℕ) : Type 0 where
  pub who : ℕ
  pub before : old ≡ 0
  pub after : new ≡ suc who
  pub unmarked : mark_of s who ≡ 0
  pub batch : 0 < last_marked (mark_of s) s.line

-- how an event of the line changes who is moved up
abbrev pub Goes : Line → LineEvent → ℕ → ℕ → Type 0
Goes s (event.Pick p y) old new = (old ≡ 0) × (new ≡ suc y)
Goes s (event.Place p) old new = (old ≡ link_word s.hand) × (new ≡ old)
Goes s (event.Keep p) old new = (old ≡ follower (batch_end s) s.line) × (new ≡ 0)
Goes s event.Nothing old new = (new ≡ old) ⊎ Chosen s old new
Goes s _ old new = new ≡ old

-- a batch number that was 0 and is written 0
set-zero : (xs : List ℕ) (p : ℕ) → slice_index xs p ≡ 0 → (q : ℕ) → slice_index (slice_set xs p 0) q ≡ slice_index xs q
set-zero [] p e q = refl
set-zero (x ∷ xs) zero e zero = sym e
set-zero (x ∷ xs) zero e (suc q) = refl
set-zero (x ∷ xs) (suc p) e zero = refl
set-zero (x ∷ xs) (suc p) e (suc q) = set-zero xs p e q

module _ (limit n : ℕ) (s : Line) (moved x : ℕ) (pos : 0 < limit) (of : IsOfPasses n s) (wf : IsWellFormed limit s) (mv : MovedUp s moved) (waits : Waits s x) where
  inside : (0 < times x s.line) ⊎ (link_word s.hand ≡ suc x)
  inside = ⊎_elim (λ h. inl h) (λ h. inr (ap link_word h)) waits

  abbrev now : ℕ
  now = potential limit (mark_of s) s.line moved x

  abbrev Lower : LineEvent → ℕ → Type 0
  Lower e new = length (leaver e) + potential limit (mark_of (after s e)) (after s e).line new x ≤ now

  once : (q : ℕ) → times q s.line ≤ 1
  once q = let a = wf.waits_once q in omega arith

  unmarked-away : (p : ℕ) → times p s.line ≡ 0 → mark_of s p ≡ 0
  unmarked-away p h = by (mark_of s p) refl
    where
      by : (k : ℕ) → mark_of s p ≡ k → mark_of s p ≡ 0
      by zero e = e
      by (suc k) e = absurd (let a = wf.in_line p (omega arith) in omega arith)

  in-marks : (p : ℕ) → 0 < times p s.line → p < length s.mark
  in-marks p h = let a = of.line p h in let b = of.marks in omega arith

  inside-or : (0 < times x s.line) ⊎ (moved ≡ suc x)
  inside-or = ⊎_elim (λ h. inl h) (λ h. inr (mv.detached x h)) inside

  -- nothing of the line and of the numbers changes
  still : (new : ℕ) → new ≡ moved → potential limit (mark_of s) s.line new x ≤ now
  still new e = let a : potential limit (mark_of s) s.line new x ≡ now = ap (λ z. potential limit (mark_of s) s.line z x) e in omega arith

  join : (p new : ℕ) → Admits limit s (event.Join p) → new ≡ moved → Lower (event.Join p) new
  join p new a e = let z = unmarked-away p a.0.0 in
      let b : potential limit (slice_index (slice_set s.mark p 0)) (s.line ++ p ∷ []) new x ≡ potential limit (mark_of s) (s.line ++ p ∷ []) moved x =
      (λ i. potential limit (λ q. set-zero s.mark p z q i) (s.line ++ p ∷ []) (e i) x) in
      let c = join-same limit (mark_of s) s.line moved x p z inside-or in omega arith

  leave : (p new : ℕ) → Admits limit s (event.Leave p) → p ≢ x → new ≡ moved → Lower (event.Leave p) new
  leave p new a d e = let t = tail-of p s.line a.0 in let xs : List ℕ = t.0 in let line : s.line ≡ p ∷ t.0 = t.1 in
      let here : 0 < times p s.line = subst (λ l. 0 < times p l) (sym line) (Chain.here p t.0) in
      let set : (q : ℕ) → slice_index (slice_set s.mark p 0) q ≡ updated (mark_of s) p 0 q = λ q. mark-set s.mark p 0 q (in-marks p here) in
      let else : (q : ℕ) → q ≢ p → slice_index (slice_set s.mark p 0) q ≡ mark_of s q = λ q k. set q ∙ Chain.updated-else (mark_of s) p q 0 k in
      let away = first-out p t.0 s.line line (once p) in
      let b = leave-lower limit (mark_of s) (slice_index (slice_set s.mark p 0)) p t.0 moved x pos (subst (EachPair (MarkedFirst (mark_of s))) line wf.prefix)
      (λ z h. else z (λ i. let u : 0 < times p t.0 = subst (λ k. 0 < times k t.0) i h in omega arith))
      (else x (λ i. d (sym i))) d (λ h. subst (λ l. 0 < last_marked (mark_of s) l) line (mv.batch h)) mv.unmarked
      (⊎_elim (λ h. inl (let u : 0 < times x (p ∷ t.0) = subst (λ l. 0 < times x l) line h in grind (arith, nat_tests))) (λ h. inr h) inside-or) in
      let gone : without p s.line ≡ t.0 = ap (without p) line ∙ Chain.without-hit p p t.0 refl in
      let c : potential limit (slice_index (slice_set s.mark p 0)) (without p s.line) new x ≡ potential limit (slice_index (slice_set s.mark p 0)) t.0 moved x =
      (λ i. potential limit (slice_index (slice_set s.mark p 0)) (gone i) (e i) x) in
      let f : now ≡ potential limit (mark_of s) (p ∷ t.0) moved x = ap (λ l. potential limit (mark_of s) l moved x) line in omega arith

  -- a round begins, or the group is full
  begin : (p new : ℕ) → MayBegin s p → new ≡ moved → potential limit (slice_index (slice_set s.mark p (begun_mark (mark_of s p)))) s.line new x ≤ now
  begin p new may e = ⊎_elim
      (λ i. let t = last-inside (mark_of s) p s.line (wf.idle p i) in let own = t.1 in let set = sets t.0 in
      let alike : (q : ℕ) → slice_index (slice_set s.mark p (begun_mark (mark_of s p))) q ≡ mark_of s q = (λ q. set q ∙ Chain.by_eq q p
      (λ j. (let u : mark_of s q ≡ mark_of s p = ap (mark_of s) j in grind (arith, nat_tests))) (λ k. Chain.updated-else (mark_of s) p q (begun_mark (mark_of s p)) k)) in
      let a : potential limit (slice_index (slice_set s.mark p (begun_mark (mark_of s p)))) s.line new x ≡ now = (λ j. potential limit (λ q. alike q j) s.line (e j) x) in omega arith)
      (λ u. let t = tail-of p s.line u.0 in let line : s.line ≡ p ∷ t.0 = t.1 in
      let here : 0 < times p s.line = subst (λ l. 0 < times p l) (sym line) (Chain.here p t.0) in let set = sets here in let z : mark_of s p ≡ 0 = u.1 in
      let prefix : EachPair (MarkedFirst (mark_of s)) (p ∷ t.0) = subst (EachPair (MarkedFirst (mark_of s))) line wf.prefix in
      let quiet : moved ≡ 0 = none moved refl (ap (last_marked (mark_of s)) line ∙ none-marked (mark_of s) p t.0 prefix z) in
      let calm : active_shuffler s.role ≡ 0 = ap active_shuffler u.2 in let empty = wf.attached calm in
      let b = begin-lower limit (mark_of s) (slice_index (slice_set s.mark p (begun_mark (mark_of s p)))) p t.0 x pos prefix (first-out p t.0 s.line line (once p)) z
      (set p ∙ (Chain.updated-same (mark_of s) p (begun_mark (mark_of s p)) ∙ (grind (arith, nat_tests))))
      (λ q k. set q ∙ Chain.updated-else (mark_of s) p q (begun_mark (mark_of s p)) k)
      (⊎_elim (λ h. subst (λ l. 0 < times x l) line h) (λ h. absurd (omega arith)) inside) in
      let c : potential limit (slice_index (slice_set s.mark p (begun_mark (mark_of s p)))) s.line new x ≡ potential limit (slice_index (slice_set s.mark p (begun_mark (mark_of s p)))) (p ∷ t.0) 0 x =
      (λ j. potential limit (slice_index (slice_set s.mark p (begun_mark (mark_of s p)))) (line j) ((e ∙ quiet) j) x) in
      let d : now ≡ potential limit (mark_of s) (p ∷ t.0) 0 x = (λ j. potential limit (mark_of s) (line j) (quiet j) x) in omega arith)
      may.may
    where
      sets : 0 < times p s.line → (q : ℕ) → slice_index (slice_set s.mark p (begun_mark (mark_of s p))) q ≡ updated (mark_of s) p (begun_mark (mark_of s p)) q
      sets h q = mark-set s.mark p (begun_mark (mark_of s p)) q (in-marks p h)

      none : (k : ℕ) → moved ≡ k → last_marked (mark_of s) s.line ≡ 0 → moved ≡ 0
      none zero i h = i
      none (suc k) i h = absurd (let a = mv.batch (omega arith) in omega arith)

  pick : (p y new : ℕ) → Admits limit s (event.Pick p y) → (moved ≡ 0) × (new ≡ suc y) → Lower (event.Pick p y) new
  pick p y new a g = let z = behind-unmarked (mark_of s) a.0 y s.line once a.1.last a.4.behind in
      let b = out-lower limit (mark_of s) s.line x y z in let c = chosen-lower limit (mark_of s) s.line x y a.0 z a.1.last in
      let d : now ≡ potential limit (mark_of s) s.line 0 x = ap (λ k. potential limit (mark_of s) s.line k x) g.0 in
      let f : potential limit (mark_of s) (without y s.line) new x ≡ potential limit (mark_of s) (without y s.line) (suc y) x = ap (λ k. potential limit (mark_of s) (without y s.line) k x) g.1 in omega arith

  place : (p new : ℕ) → Admits limit s (event.Place p) → (moved ≡ link_word s.hand) × (new ≡ moved) → Lower (event.Place p) new
  place p new a g = by (link_word s.hand) refl a.2
    where
      by : (k : ℕ) → link_word s.hand ≡ k → 0 < k → Lower (event.Place p) new
      by zero e h = absurd (omega arith)
      by (suc y) e h = let is : link_word s.hand - 1 ≡ y = omega arith in let was : moved ≡ suc y = g.0 ∙ e in
          let b = put-same limit (mark_of s) s.line x y (batch_end s) (mv.unmarked y was) in
          let c : potential limit (mark_of s) (put_behind (batch_end s) (link_word s.hand - 1) s.line) new x ≡ potential limit (mark_of s) (put_behind (batch_end s) y s.line) (suc y) x =
          (λ i. potential limit (mark_of s) (put_behind (batch_end s) (is i) s.line) ((g.1 ∙ was) i) x) in
          let d : now ≡ potential limit (mark_of s) s.line (suc y) x = ap (λ k. potential limit (mark_of s) s.line k x) was in omega arith

  keep : (p new : ℕ) → Admits limit s (event.Keep p) → (moved ≡ follower (batch_end s) s.line) × (new ≡ 0) → Lower (event.Keep p) new
  keep p new a g =
      let k = batch_end s in let y = follower k s.line - 1 in let v = mark_of s k + 1 in let round = a.1 in
      let e : k ≡ a.0 = (let u = round.last in omega arith) in
      let last : last_marked (mark_of s) s.line ≡ suc k = (let u = round.last in omega arith) in
      let room : mark_of s k < limit = subst (λ q. mark_of s q < limit) (sym e) a.3 in
      let next : follower k s.line ≡ suc y = (let u : 0 < follower k s.line = subst (λ q. 0 < follower q s.line) (sym e) a.4 in omega arith) in
      let inn = follower-inside k y s.line next in
      let was : moved ≡ suc y = g.0 ∙ next in
      let set : (q : ℕ) → slice_index (slice_set s.mark y v) q ≡ updated (mark_of s) y v q = λ q. mark-set s.mark y v q (in-marks y inn) in
      let b = keep-lower limit (mark_of s) (slice_index (slice_set s.mark y v)) s.line x y k wf.prefix once (mv.unmarked y was)
      (set y ∙ Chain.updated-same (mark_of s) y v) (λ z d. set z ∙ Chain.updated-else (mark_of s) y z v d) last next inn room
      (⊎_elim (λ h. h) (λ h. absurd (let u = a.2 in omega arith)) inside) in
      let c : potential limit (slice_index (slice_set s.mark y v)) s.line new x ≡ potential limit (slice_index (slice_set s.mark y v)) s.line 0 x = ap (λ q. potential limit (slice_index (slice_set s.mark y v)) s.line q x) g.1 in
      let d : now ≡ potential limit (mark_of s) s.line (suc y) x = ap (λ q. potential limit (mark_of s) s.line q x) was in omega arith

  quiet : (new : ℕ) → (new ≡ moved) ⊎ Chosen s moved new → Lower event.Nothing new
  quiet new g = ⊎_elim (λ e. let a = still new e in omega arith)
      (λ c. by (last_marked (mark_of s) s.line) refl c c.batch) g
    where
      by : (k : ℕ) → last_marked (mark_of s) s.line ≡ k → Chosen s moved new → 0 < k → Lower event.Nothing new
      by zero e c h = absurd (omega arith)
      by (suc k) e c h = let a = chosen-lower limit (mark_of s) s.line x c.who k c.unmarked e in
          let b : potential limit (mark_of s) s.line new x ≡ potential limit (mark_of s) s.line (suc c.who) x = ap (λ q. potential limit (mark_of s) s.line q x) c.after in
          let d : now ≡ potential limit (mark_of s) s.line 0 x = ap (λ q. potential limit (mark_of s) s.line q x) c.before in omega arith

  pub step : (e : LineEvent) (new : ℕ) → Admits limit s e → Goes s e moved new → e ≢ event.Leave x → Lower e new
  step (event.Steal p mode) new a g d = let b = still new g in omega arith
  step (event.Join p) new a g d = join p new a g
  step (event.Grab p mode) new a g d = let b = still new g in omega arith
  step (event.Leave p) new a g d = leave p new a (λ i. d (ap event.Leave i)) g
  step (event.Release p) new a g d = let b = still new g in omega arith
  step (event.Begin p) new a g d = let b = begin p new a.0 g in omega arith
  step (event.Rest p) new a g d = let b = begin p new a.0 g in omega arith
  step (event.Pick p y) new a g d = pick p y new a g
  step (event.Place p) new a g d = place p new a g
  step (event.Keep p) new a g d = keep p new a g
  step (event.Give p) new a g d = let b = still new g in omega arith
  step event.Nothing new a g d = quiet new g
