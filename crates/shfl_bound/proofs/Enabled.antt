-- Who enables stealing while a pass waits, and how often.
use Rattle.std.proofs.Common.{◌≡◌, ◌≢◌, ℕ, zero, suc, ◌+◌, ◌<◌, ◌≤◌, ◌⊎◌, List, [], ◌∷◌, Bool, true, false, cond, ◌==◌, refl, ap, ◌∙◌, inl, inr, subst, ⊎_elim, arith}
use Rattle.std.specs.Prelude.{◌&&◌, not, None, Some}
use Rattle.std.proofs.lemmas.Bool.Decides.{nat_tests}
use Rattle.shfl_line.specs.declared.events.LineEvent.{LineEvent}
use Rattle.shfl_line.specs.declared.events.LineEvent.TheVariants as event
use Rattle.shfl_line.specs.Words.{closed_of}
use Rattle.shfl_line.specs.Passes.{times}
use Rattle.shfl_line.specs.Line.{active_shuffler}
use Rattle.shfl_core.specs.declared.words.Word.TheVariants.{Lock, Tail as TailWord}
use Rattle.shfl_core.specs.Words.{look}
use Rattle.shfl_core.specs.Worlds.{World, known}
use Rattle.shfl_core.specs.View.{view}
use Rattle.shfl_core.specs.Order.{Walks}
use Rattle.shfl_core.specs.Lawful.{Terms, Lawful, Advances}
use Rattle.shfl_laws.specs.Changes.{Change, after_change, change_event, MayChange}
use Rattle.shfl_bound.specs.Departures.{Waits}
use Rattle.shfl_bound.specs.Stealing.{is_enabled, enablers, enabled_between, is_departure, times_enabled, OnlyEnablersEnable, EnabledBound}
use Rattle.shfl_bound.proofs.Staying.{own-or}
use Rattle.shfl_bound.proofs.ChangeLaws.{change-law}
use Rattle.shfl_bound.proofs.Bound.{waits-on}
use Rattle.shfl_bound.proofs.Turns.{NoneComes, Turns, Stays, Enables, Empties, turn}

-- nobody waits where the queue is empty
nobody-waits : (t : Terms) (w : World) (ok : Lawful t w) (x : ℕ) → look w.words TailWord ≡ 0 → Waits ok.shown x → ⊥
nobody-waits t w ok x z waits = none ok.shown.line refl
  where
    none : (l : List ℕ) → ok.shown.line ≡ l → ⊥
    none (y ∷ ys) i = absurd (let k = (subst (Walks (view w)) i ok.agrees.order.walks).2 in omega arith)
    none [] i = ⊎_elim
        (λ h. (let a : 0 < times x [] = subst (λ l. 0 < times x l) i h in omega arith))
        (λ h. by (active_shuffler ok.shown.role) refl h)
        waits
      where
        by : (n : ℕ) → active_shuffler ok.shown.role ≡ n → ok.shown.hand ≡ Some x → ⊥
        by zero e h = let a : ok.shown.hand ≡ None = ok.agrees.order.still e in cc
        by (suc p) e h = let a = (ok.agrees.order.round p (ok.agrees.grouping.walker p e).0).prev_in in
            let b : 0 < times (known w.passes p).reg.prev [] = subst (λ l. 0 < times (known w.passes p).reg.prev l) i a in omega arith

module _ (t : Terms) (w : World) (ok : Lawful t w) (x : ℕ) (c : Change) (may : MayChange t.rules.form c) (waits : Waits ok.shown x) (other : change_event t.rules w c ≢ event.Leave x) where
  a : Advances t w ok (change_event t.rules w c) (after_change t.rules w c)
  a = change-law t w c ok may

  emptied : look (after_change t.rules w c).words TailWord ≡ 0 → ⊥
  emptied e = nobody-waits t (after_change t.rules w c) a.lawful x e (waits-on t w ok x (change_event t.rules w c) (after_change t.rules w c) a waits other)

  pub nobody-else : NoneComes w (after_change t.rules w c)
  nobody-else = by (turn t w ok c)
    where
      by : Turns w (after_change t.rules w c) → NoneComes w (after_change t.rules w c)
      by (Stays h n k) = k
      by (Enables n k) = k
      by (Empties e) = absurd (emptied e)

  pub once : enabled_between w (after_change t.rules w c) + enablers (after_change t.rules w c) ≤ enablers w
  once = by (turn t w ok c)
    where
      most : (b : Bool) → cond b 1 0 ≤ 1
      most true = omega arith
      most false = omega arith

      still : (b d : Bool) → (b ≡ true → d ≡ true) → ◌≡◌ {A = ℕ} (cond (not (not b) && not d) 1 0) 0
      still true true h = refl
      still true false h = absurd (let z = h refl in cc)
      still false d h = refl

      by : Turns w (after_change t.rules w c) → enabled_between w (after_change t.rules w c) + enablers (after_change t.rules w c) ≤ enablers w
      by (Stays h n k) = let z = still (closed_of (look w.words Lock)) (closed_of (look (after_change t.rules w c).words Lock)) h in omega arith
      by (Enables n k) = let z = most (not (is_enabled w) && is_enabled (after_change t.rules w c)) in omega arith
      by (Empties e) = absurd (emptied e)

pub only-enablers : (t : Terms) → OnlyEnablersEnable t
only-enablers t = record {
  nobody_else = λ w ok x c may waits other. nobody-else t w ok x c may waits other;
  once = λ w ok x c may waits other. once t w ok x c may waits other;
}

pub departs : (x : ℕ) (e : LineEvent) → e ≡ event.Leave x → is_departure x e ≡ true
departs x e i = ap (is_departure x) i ∙ (let z : (x == x) ≡ true = grind (arith, nat_tests) in z)

pub stays-on : (x : ℕ) (e : LineEvent) → e ≢ event.Leave x → is_departure x e ≡ false
stays-on x (event.Leave p) n = let d : p ≢ x = (λ i. n (ap event.Leave i)) in grind (arith, nat_tests)
stays-on x _ n = refl

pub enabled-bound : (t : Terms) → EnabledBound t
enabled-bound t w ok x [] may waits = omega arith
enabled-bound t w ok x (c ∷ rest) may waits = let a = change-law t w c ok may.0 in
    by a (own-or x (change_event t.rules w c)) (enabled-bound t (after_change t.rules w c) a.lawful x rest may.1)
  where
    by : (a : Advances t w ok (change_event t.rules w c) (after_change t.rules w c)) → (change_event t.rules w c ≡ event.Leave x) ⊎ (change_event t.rules w c ≢ event.Leave x)
        → (Waits a.lawful.shown x → times_enabled t.rules x (after_change t.rules w c) rest ≤ enablers (after_change t.rules w c))
        → times_enabled t.rules x w (c ∷ rest) ≤ enablers w
    by a (inl own) ih = let z : times_enabled t.rules x w (c ∷ rest) ≡ 0 =
        ap (λ b. cond b 0 (enabled_between w (after_change t.rules w c) + times_enabled t.rules x (after_change t.rules w c) rest)) (departs x (change_event t.rules w c) own) in omega arith
    by a (inr other) ih = let u = ih (waits-on t w ok x (change_event t.rules w c) (after_change t.rules w c) a waits other) in
        let v = once t w ok x c may.0 waits other in
        let z : times_enabled t.rules x w (c ∷ rest) ≡ enabled_between w (after_change t.rules w c) + times_enabled t.rules x (after_change t.rules w c) rest =
        ap (λ b. cond b 0 (enabled_between w (after_change t.rules w c) + times_enabled t.rules x (after_change t.rules w c) rest)) (stays-on x (change_event t.rules w c) other) in omega arith
