-- A waiter waits until its own departure; and what an event adds to who has left before it.
use Rattle.std.proofs.Common.{◌≡◌, ◌≢◌, ℕ, suc, ◌-◌, ◌<◌, ◌⊎◌, List, [], ◌∷◌, ◌++◌, Bool, true, false, cond, ◌==◌, refl, sym, ap, inl, inr, subst, ⊎_elim, arith}
use Rattle.std.specs.Prelude.{Option, Some}
use Rattle.std.proofs.lemmas.Bool.Decides.{nat_tests}
use Rattle.shfl_line.specs.declared.events.LineEvent.{LineEvent}
use Rattle.shfl_line.specs.declared.events.LineEvent.TheVariants as event
use Rattle.shfl_line.specs.Words.{link_word}
use Rattle.shfl_line.specs.Passes.{times, last_marked}
use Rattle.shfl_line.specs.Line.{Line, mark_of}
use Rattle.shfl_line.specs.Steps.{batch_end, Admits, after}
use Rattle.shfl_line.proofs.Chain
use Rattle.shfl_line.proofs.Behind.{last-inside, behind-inside}
use Rattle.shfl_line.proofs.KeptLine.{tail-of}
use Rattle.shfl_line.proofs.Marks.{times-put-behind}
use Rattle.shfl_bound.specs.Departures.{Waits, leaver, left_before}

pub hand-word : (h : Option ℕ) (x : ℕ) → h ≡ Some x → link_word h ≡ suc x
hand-word h x e = ap link_word e

pub stays : (limit : ℕ) (s : Line) (x : ℕ) (e : LineEvent) → Admits limit s e → e ≢ event.Leave x → Waits s x → Waits (after s e) x
stays limit s x (event.Steal p mode) a n w = w
stays limit s x (event.Join p) a n w = ⊎_elim (λ h. inl (let b = Chain.times-push x p s.line in omega arith)) (λ h. inr h) w
stays limit s x (event.Grab p mode) a n w = w
stays limit s x (event.Leave p) a n w = ⊎_elim
    (λ h. let t = tail-of p s.line a.0 in let here : 0 < times p s.line = subst (λ l. 0 < times p l) (sym t.1) (Chain.here p t.0) in
    let b = Chain.times-without x p s.line here in let d : p ≢ x = (λ i. n (ap event.Leave i)) in inl (grind (arith, nat_tests)))
    (λ h. inr h) w
stays limit s x (event.Release p) a n w = w
stays limit s x (event.Begin p) a n w = w
stays limit s x (event.Rest p) a n w = w
stays limit s x (event.Pick p y) a n w = ⊎_elim
    (λ h. Chain.by_eq y x (λ i. inr (ap Some i)) (λ d. let here = behind-inside y a.0 s.line a.4.behind in let b = Chain.times-without x y s.line here in inl (grind (arith, nat_tests))))
    (λ h. absurd (let b = hand-word s.hand x h in let c = a.2 in omega arith)) w
stays limit s x (event.Place p) a n w = let l = a.1.last in let last : last_marked (mark_of s) s.line ≡ suc (batch_end s) = omega arith in
    let b = times-put-behind x (batch_end s) (link_word s.hand - 1) s.line (last-inside (mark_of s) (batch_end s) s.line last).0 in ⊎_elim
    (λ h. inl (omega arith))
    (λ h. let c = hand-word s.hand x h in let d : link_word s.hand - 1 ≡ x = omega arith in inl (grind (arith, nat_tests))) w
stays limit s x (event.Keep p) a n w = w
stays limit s x (event.Give p) a n w = w
stays limit s x event.Nothing a n w = w

-- who has left before x, where the event isn't x's own departure
pub left-more : (x : ℕ) (e : LineEvent) (es : List LineEvent) → e ≢ event.Leave x → left_before x (e ∷ es) ≡ leaver e ++ left_before x es
left-more x (event.Steal p mode) es n = refl
left-more x (event.Join p) es n = refl
left-more x (event.Grab p mode) es n = refl
left-more x (event.Leave p) es n = by (p == x) (let d : p ≢ x = (λ i. n (ap event.Leave i)) in grind (arith, nat_tests))
  where
    by : (b : Bool) → b ≡ false → cond b [] (p ∷ left_before x es) ≡ p ∷ left_before x es
    by true e = absurd (cc)
    by false e = refl
left-more x (event.Release p) es n = refl
left-more x (event.Begin p) es n = refl
left-more x (event.Rest p) es n = refl
left-more x (event.Pick p y) es n = refl
left-more x (event.Place p) es n = refl
left-more x (event.Keep p) es n = refl
left-more x (event.Give p) es n = refl
left-more x event.Nothing es n = refl

pub left-none : (x : ℕ) (es : List LineEvent) → left_before x (event.Leave x ∷ es) ≡ []
left-none x es = by (x == x) (grind (arith, nat_tests))
  where
    by : (b : Bool) → b ≡ true → cond b [] (x ∷ left_before x es) ≡ []
    by true e = refl
    by false e = absurd (cc)

-- an event is x's own departure, or isn't
pub own-or : (x : ℕ) (e : LineEvent) → (e ≡ event.Leave x) ⊎ (e ≢ event.Leave x)
own-or x (event.Steal p mode) = inr (λ i. (cc))
own-or x (event.Join p) = inr (λ i. (cc))
own-or x (event.Grab p mode) = inr (λ i. (cc))
own-or x (event.Leave p) = Chain.by_eq p x (λ i. inl (ap event.Leave i)) (λ n. inr (λ i. n (leaves i)))
  where
    leaves : event.Leave p ≡ event.Leave x → p ≡ x
    leaves i = cc
own-or x (event.Release p) = inr (λ i. (cc))
own-or x (event.Begin p) = inr (λ i. (cc))
own-or x (event.Rest p) = inr (λ i. (cc))
own-or x (event.Pick p y) = inr (λ i. (cc))
own-or x (event.Place p) = inr (λ i. (cc))
own-or x (event.Keep p) = inr (λ i. (cc))
own-or x (event.Give p) = inr (λ i. (cc))
own-or x event.Nothing = inr (λ i. (cc))
