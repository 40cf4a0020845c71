-- Whoever is in a round hands on: each of its steps leaves fewer, until one is Give.
use Rattle.std.proofs.Common.{◌≡◌, ℕ, ◌<◌, ◌≤◌, ◌⊎◌, List, [], ◌∷◌, Bool, true, false, cond, ◌==◌, refl, sym, ap, ◌∙◌, inl, inr, subst, ⊎_elim, arith}
use Rattle.std.specs.Prelude.{◌||◌}
use Rattle.std.proofs.lemmas.Bool.Decides.{nat_tests}
use Rattle.shfl_line.specs.declared.events.LineEvent.{LineEvent}
use Rattle.shfl_line.specs.declared.events.LineEvent.TheVariants as event
use Rattle.shfl_core.specs.Worlds.{World, known, Acquire, Release, Step, after_move}
use Rattle.shfl_core.specs.Lawful.{Terms, count, Lawful, Advances}
use Rattle.shfl_laws.specs.Moves.{move_event}
use Rattle.shfl_laws.specs.Rounds.{in_round}
use Rattle.shfl_laws.specs.Changes.{Change, Moves, Tries, Disables, Fills, Replaces, after_change, change_event, shown_events, EachMayChange}
use Rattle.shfl_bound.proofs.ChangeLaws.{change-law}
use Rattle.shfl_drain.specs.HandingOn.{is_step_of, steps_of, hands_on, steps_left, HandingOn, AlwaysHandsOn}
use Rattle.shfl_drain.proofs.Slack.{left-some}
use Rattle.shfl_drain.proofs.RoundSteps.{steps-most, steps-on, left-alone}

pub handing-on : (t : Terms) → HandingOn t
handing-on t = record {
  bounded = λ w ok p r. steps-most t w p ok r;
  own = λ w ok p choice a r. steps-on t w p ok r choice a;
  others = λ w ok p c a r d. left-alone t w p ok r c a d;
}

-- who hands on by one of the events, does so by the first or by a later one
later : (p : ℕ) (e : LineEvent) (rest : List LineEvent) → hands_on p rest ≡ true → hands_on p (e ∷ rest) ≡ true
later p (event.Give q) rest h = or-true (q == p) (hands_on p rest) h
  where
    or-true : (a b : Bool) → b ≡ true → (a || b) ≡ true
    or-true true b e = refl
    or-true false b e = e
later p (event.Steal q mode) rest h = h
later p (event.Join q) rest h = h
later p (event.Grab q mode) rest h = h
later p (event.Leave q) rest h = h
later p (event.Release q) rest h = h
later p (event.Begin q) rest h = h
later p (event.Rest q) rest h = h
later p (event.Pick q who) rest h = h
later p (event.Place q) rest h = h
later p (event.Keep q) rest h = h
later p event.Nothing rest h = h

now : (p : ℕ) (e : LineEvent) (rest : List LineEvent) → e ≡ event.Give p → hands_on p (e ∷ rest) ≡ true
now p e rest i = ap (λ (z : LineEvent). hands_on p (z ∷ rest)) i ∙ (λ j. self p j || hands_on p rest)
  where
    self : (p : ℕ) → (p == p) ≡ true
    self p = grind (arith, nat_tests)

module _ (t : Terms) (p : ℕ) where
  -- it hands on, or has made fewer steps than are left of its round
  abbrev Made : (w : World) → Lawful t w → List Change → Type 0
  Made w ok cs = (hands_on p (shown_events t.rules w cs) ≡ true) ⊎ (steps_of p cs < steps_left t w ok p)

  -- so it is of the changes that follow this one
  abbrev After : (w : World) → Lawful t w → Change → List Change → Type 0
  After w ok c rest = (a : Advances t w ok (change_event t.rules w c) (after_change t.rules w c)) → in_round (after_change t.rules w c) p ≡ true → Made (after_change t.rules w c) a.lawful rest

  made : (cs : List Change) (w : World) (ok : Lawful t w) → EachMayChange t.rules.form cs → in_round w p ≡ true → Made w ok cs
  made [] w ok may r = inr (let a = left-some (count t) ok.shown p (known w.passes p) r in omega arith)
  made (c ∷ rest) w ok may r = by c (change-law t w c ok may.0) (λ a. made rest (after_change t.rules w c) a.lawful may.1)
    where
      -- another's change
      other : (c : Change) (a : Advances t w ok (change_event t.rules w c) (after_change t.rules w c)) → After w ok c rest → is_step_of p c ≡ false → Made w ok (c ∷ rest)
      other c a ih d = let k = left-alone t w p ok r c a d in ⊎_elim
          (λ h. inl (later p (change_event t.rules w c) (shown_events t.rules (after_change t.rules w c) rest) h))
          (λ h. inr (let l = k.1 in let x : ◌≡◌ {A = ℕ} (cond (is_step_of p c) 1 0) 0 = ap (λ b. cond b 1 0) d in omega arith))
          (ih a k.0)

      -- a step of its own
      own : (choice : Bool) (a : Advances t w ok (move_event t.rules w (Step p choice)) (after_move t.rules w (Step p choice))) → After w ok (Moves (Step p choice)) rest → Made w ok (Moves (Step p choice) ∷ rest)
      own choice a ih = ⊎_elim
          (λ h. inl (now p (move_event t.rules w (Step p choice)) (shown_events t.rules (after_move t.rules w (Step p choice)) rest) h.shown))
          (λ k. ⊎_elim
          (λ h. inl (later p (move_event t.rules w (Step p choice)) (shown_events t.rules (after_move t.rules w (Step p choice)) rest) h))
          (λ h. inr (let l = k.1 in let x = one (p == p) in omega arith))
          (ih a k.0))
          (steps-on t w p ok r choice a)
        where
          one : (b : Bool) → cond b 1 0 ≤ 1
          one true = omega arith
          one false = omega arith

      by : (c : Change) (a : Advances t w ok (change_event t.rules w c) (after_change t.rules w c)) → After w ok c rest → Made w ok (c ∷ rest)
      by (Moves (Acquire q mode)) a ih = other (Moves (Acquire q mode)) a ih refl
      by (Moves (Release q)) a ih = other (Moves (Release q)) a ih refl
      by (Moves (Step q choice)) a ih = step (q == p) refl
        where
          step : (b : Bool) → (q == p) ≡ b → Made w ok (Moves (Step q choice) ∷ rest)
          step true e = let i : q ≡ p = grind (arith, nat_tests, e) in
              subst (λ z. (a : Advances t w ok (move_event t.rules w (Step z choice)) (after_move t.rules w (Step z choice))) → After w ok (Moves (Step z choice)) rest → Made w ok (Moves (Step z choice) ∷ rest)) (sym i) (own choice) a ih
          step false e = other (Moves (Step q choice)) a ih e
      by (Tries q mode) a ih = other (Tries q mode) a ih refl
      by (Disables q) a ih = other (Disables q) a ih refl
      by Fills a ih = other Fills a ih refl
      by (Replaces q g) a ih = other (Replaces q g) a ih refl

pub always-hands-on : (t : Terms) → AlwaysHandsOn t
always-hands-on t w ok p cs may r h = ⊎_elim (λ i. i) (λ l. absurd (let b = steps-most t w p ok r in omega arith)) (made t p cs w ok may r)
