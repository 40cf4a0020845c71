-- Where the limit is 1 nobody is moved up, and the passes leave in the order in which they stand.
use Rattle.std.proofs.Common.{◌≡◌, ◌≢◌, ◌⊎◌, inl, inr, ℕ, zero, suc, ◌+◌, ◌<◌, List, [], ◌∷◌, ◌++◌, Bool, true, false, cond, refl, sym, ap, ◌∙◌, subst, ⊎_elim, append_assoc, arith}
use Rattle.shfl_line.specs.declared.events.LineEvent.{LineEvent}
use Rattle.shfl_line.specs.declared.events.LineEvent.TheVariants as event
use Rattle.shfl_line.specs.Words.{link_word}
use Rattle.shfl_line.specs.Passes.{times, without, IsLastMarked}
use Rattle.shfl_line.specs.Line.{Line, mark_of, active_shuffler}
use Rattle.shfl_line.specs.Steps.{Admits, after}
use Rattle.shfl_line.proofs.Chain
use Rattle.shfl_line.proofs.Behind.{last-inside}
use Rattle.shfl_line.proofs.KeptLine.{tail-of}
use Rattle.shfl_core.specs.declared.phase.Phase.{Phase}
use Rattle.shfl_core.specs.declared.phase.Phase.TheVariants.{Give}
use Rattle.shfl_core.specs.Phases.{has_hand}
use Rattle.shfl_core.specs.Worlds.{World, known}
use Rattle.shfl_core.specs.Lawful.{Terms, Lawful, Advances}
use Rattle.shfl_laws.specs.Changes.{Change, after_change, change_event, shown_events, EachMayChange}
use Rattle.shfl_bound.specs.Departures.{Waits, ahead, leaver, left_before}
use Rattle.shfl_bound.specs.Overtaking.{FirstInFirstOut}
use Rattle.shfl_bound.proofs.Ahead.{ahead-push, ahead-miss}
use Rattle.shfl_bound.proofs.ChangeLaws.{change-law}
use Rattle.shfl_bound.proofs.Staying.{hand-word, left-more, left-none, own-or}
use Rattle.shfl_bound.proofs.Bound.{waits-on}

-- an event of a line of which nobody is taken out
in-order : (s : Line) (x : ℕ) (e : LineEvent) → Admits 1 s e → link_word s.hand ≡ 0 → 0 < times x s.line → e ≢ event.Leave x → leaver e ++ ahead x (after s e).line ≡ ahead x s.line
in-order s x (event.Steal p mode) a h i n = refl
in-order s x (event.Join p) a h i n = ahead-push x p s.line i
in-order s x (event.Grab p mode) a h i n = refl
in-order s x (event.Leave p) a h i n = let t = tail-of p s.line a.0 in let gone : without p s.line ≡ t.0 = ap (without p) t.1 ∙ Chain.without-hit p p t.0 refl in
    ap (λ l. p ∷ ahead x l) gone ∙ (sym (ahead-miss x p t.0 (λ e. n (ap event.Leave e))) ∙ sym (ap (ahead x) t.1))
in-order s x (event.Release p) a h i n = refl
in-order s x (event.Begin p) a h i n = refl
in-order s x (event.Rest p) a h i n = refl
in-order s x (event.Pick p y) a h i n = absurd (let m = (last-inside (mark_of s) a.0 s.line a.1.last).1 in let l = a.3 in omega arith)
in-order s x (event.Place p) a h i n = absurd (let l = a.2 in omega arith)
in-order s x (event.Keep p) a h i n = refl
in-order s x (event.Give p) a h i n = refl
in-order s x event.Nothing a h i n = refl

not-give : (f : Phase) → has_hand f ≡ true → f ≢ Give
not-give f e i = grind (arith, e, i)

-- a batch of one has no room
no-hand : (t : Terms) (w : World) (ok : Lawful t w) → t.rules.limit ≡ 1 → link_word ok.shown.hand ≡ 0
no-hand t w ok one = by (active_shuffler ok.shown.role) refl
  where
    by : (n : ℕ) → active_shuffler ok.shown.role ≡ n → link_word ok.shown.hand ≡ 0
    by zero e = ap link_word (ok.agrees.order.still e)
    by (suc p) e = let r = (ok.agrees.grouping.walker p e).0 in has (has_hand (known w.passes p).phase) refl (ok.agrees.order.round p r).hand_is (ok.agrees.grouping.last p r)
      where
        has : (b : Bool) → has_hand (known w.passes p).phase ≡ b → link_word ok.shown.hand ≡ cond b (suc (known w.passes p).reg.cand) 0
            → IsLastMarked (mark_of ok.shown) ok.shown.line (known w.passes p).reg.last × (mark_of ok.shown (known w.passes p).reg.last ≡ (known w.passes p).reg.count)
            × ((known w.passes p).phase ≢ Give → (known w.passes p).reg.count < t.rules.limit) → link_word ok.shown.hand ≡ 0
        has true i h l = absurd (let a = l.2 (not-give (known w.passes p).phase i) in let b = l.0.marked in let c = l.1 in omega arith)
        has false i h l = h

in-line : (t : Terms) (w : World) (ok : Lawful t w) (x : ℕ) → t.rules.limit ≡ 1 → Waits ok.shown x → 0 < times x ok.shown.line
in-line t w ok x one waits = ⊎_elim (λ h. h) (λ h. absurd (let a = no-hand t w ok one in let b = hand-word ok.shown.hand x h in omega arith)) waits

leave-in-order : (t : Terms) (x : ℕ) → t.rules.limit ≡ 1 → (cs : List Change) (w : World) (ok : Lawful t w) → EachMayChange t.rules.form cs → Waits ok.shown x
    → (rest : List ℕ) × (left_before x (shown_events t.rules w cs) ++ rest ≡ ahead x ok.shown.line)
leave-in-order t x one [] w ok may waits = (ahead x ok.shown.line, refl)
leave-in-order t x one (c ∷ cs) w ok may waits = let a = change-law t w c ok may.0 in by a (own-or x (change_event t.rules w c)) (leave-in-order t x one cs (after_change t.rules w c) a.lawful may.1)
  where
    by : (a : Advances t w ok (change_event t.rules w c) (after_change t.rules w c)) → (change_event t.rules w c ≡ event.Leave x) ⊎ (change_event t.rules w c ≢ event.Leave x)
        → (Waits a.lawful.shown x → (rest : List ℕ) × (left_before x (shown_events t.rules (after_change t.rules w c) cs) ++ rest ≡ ahead x a.lawful.shown.line))
        → (rest : List ℕ) × (left_before x (change_event t.rules w c ∷ shown_events t.rules (after_change t.rules w c) cs) ++ rest ≡ ahead x ok.shown.line)
    by a (inl own) ih = (
      ahead x ok.shown.line,
      ap (λ l. l ++ ahead x ok.shown.line)
          (ap (λ (e : LineEvent). left_before x (e ∷ shown_events t.rules (after_change t.rules w c) cs)) own ∙ left-none x (shown_events t.rules (after_change t.rules w c) cs)),
    )
    by a (inr other) ih = let u = ih (waits-on t w ok x (change_event t.rules w c) (after_change t.rules w c) a waits other) in
        let l = leaver (change_event t.rules w c) in let d = left_before x (shown_events t.rules (after_change t.rules w c) cs) in (
          u.0,
          ap (λ z. z ++ u.0) (left-more x (change_event t.rules w c) (shown_events t.rules (after_change t.rules w c) cs) other)
              ∙ (append_assoc l d u.0 ∙ (ap (λ z. l ++ z) u.1 ∙ (ap (λ (s : Line). l ++ ahead x s.line) a.shown
              ∙ in-order ok.shown x (change_event t.rules w c) (subst (λ k. Admits k ok.shown (change_event t.rules w c)) one a.admitted) (no-hand t w ok one) (in-line t w ok x one waits) other))),
        )

times-append : (y : ℕ) (l k : List ℕ) → times y (l ++ k) ≡ times y l + times y k
times-append y [] k = omega arith
times-append y (z ∷ zs) k = let a = times-append y zs k in omega arith

pub first-in-first-out : (t : Terms) → FirstInFirstOut t
first-in-first-out t w ok x cs one may waits = let u = leave-in-order t x one cs w ok may waits in record {
  order = u;
  others = λ y z. let a : times y (left_before x (shown_events t.rules w cs) ++ u.0) ≡ times y (ahead x ok.shown.line) = ap (times y) u.1 in let b = times-append y (left_before x (shown_events t.rules w cs)) u.0 in omega arith;
}
