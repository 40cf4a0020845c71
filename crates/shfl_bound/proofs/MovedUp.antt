-- The waiter that is being moved up in a lawful world: its shuffler's candidate from the store that takes it out of the
-- line to the one that gives it its batch number.
use Rattle.std.proofs.Common.{◌≡◌, ◌≢◌, ℕ, zero, suc, ◌<◌, ◌⊎◌, List, Bool, true, false, cond, refl, sym, ap, ◌∙◌, inl, inr, subst, ⊎_elim, arith}
use Rattle.shfl_line.specs.Line.{mark_of, active_shuffler}
use Rattle.shfl_line.specs.Words.{link_word}
use Rattle.shfl_line.specs.Passes.{times, last_marked, follower}
use Rattle.shfl_line.specs.Steps.{batch_end}
use Rattle.shfl_line.proofs.Chain
use Rattle.shfl_core.specs.declared.phase.Phase.{Phase}
use Rattle.shfl_core.specs.declared.phase.Phase.TheVariants.{Aim, Place, Mark}
use Rattle.shfl_core.specs.declared.phase.PassState.{PassState}
use Rattle.shfl_core.specs.Phases.{is_round, has_hand}
use Rattle.shfl_core.specs.Worlds.{World, known}
use Rattle.shfl_core.specs.View.{view}
use Rattle.shfl_core.specs.Order.{Order as Ordered}
use Rattle.shfl_core.specs.Grouping.{Grouping}
use Rattle.shfl_core.specs.Lawful.{Terms, Lawful}
use Rattle.shfl_laws.proofs.rows.Order
use Rattle.shfl_laws.proofs.shown.WellFormed.{last-number}
use Rattle.shfl_bound.proofs.LineSteps.{MovedUp}

-- the phases in which the candidate is moved up
abbrev pub moves_up : Phase → Bool
moves_up Aim = true
moves_up Place = true
moves_up Mark = true
moves_up _ = false

pub up-round : (f : Phase) → moves_up f ≡ true → is_round f ≡ true
up-round f e = grind arith

-- that candidate plus 1, or 0, where the active shuffler plus 1, or 0, is given
abbrev pub moved_by : ℕ → (ℕ → PassState) → ℕ
moved_by zero pass = 0
moved_by (suc p) pass = cond (moves_up (pass p).phase) (suc (pass p).reg.cand) 0

abbrev pub moved : (t : Terms) (w : World) → Lawful t w → ℕ
moved t w ok = moved_by (active_shuffler ok.shown.role) (known w.passes)

-- nobody is moved up, or the candidate of this pass
pub data Who (pass : ℕ → PassState) (m : ℕ) : Type 0 where
  Nobody : m ≡ 0 → ((p : ℕ) → moves_up (pass p).phase ≡ false) → Who pass m
  By : (p : ℕ) → moves_up (pass p).phase ≡ true → m ≡ suc (pass p).reg.cand → Who pass m

module _ (t : Terms) (w : World) (ok : Lawful t w) where
  abbrev pass : ℕ → PassState
  pass p = known w.passes p

  o : Ordered (view w) ok.shown ok.giver
  o = ok.agrees.order

  k : Grouping t.rules.limit (view w) ok.shown
  k = ok.agrees.grouping

  pub moved-round : (p : ℕ) → is_round (known w.passes p).phase ≡ true → moved t w ok ≡ cond (moves_up (known w.passes p).phase) (suc (known w.passes p).reg.cand) 0
  moved-round p r = ap (λ n. moved_by n (known w.passes)) (k.walks p r)

  pub moved-some : (p : ℕ) → moves_up (known w.passes p).phase ≡ true → moved t w ok ≡ suc (known w.passes p).reg.cand
  moved-some p e = moved-round p (up-round (pass p).phase e) ∙ ap (λ b. cond b (suc (pass p).reg.cand) 0) e

  pub moved-none : (p : ℕ) → is_round (known w.passes p).phase ≡ true → moves_up (known w.passes p).phase ≡ false → moved t w ok ≡ 0
  moved-none p r e = moved-round p r ∙ ap (λ b. cond b (suc (pass p).reg.cand) 0) e

  -- where nobody's phase is one of these
  nobody : ((p : ℕ) → moves_up (pass p).phase ≡ true → ⊥) → (p : ℕ) → moves_up (pass p).phase ≡ false
  nobody f p = by (moves_up (pass p).phase) refl
    where
      by : (b : Bool) → moves_up (pass p).phase ≡ b → b ≡ false
      by true e = absurd (f p e)
      by false e = refl

  pub who : Who (known w.passes) (moved t w ok)
  who = by (active_shuffler ok.shown.role) refl
    where
      by : (n : ℕ) → active_shuffler ok.shown.role ≡ n → Who (known w.passes) (moved t w ok)
      by zero e = Nobody (ap (λ n. moved_by n (known w.passes)) e) (nobody (λ p u. let a = k.walks p (up-round (pass p).phase u) in omega arith))
      by (suc p) e = up (moves_up (pass p).phase) refl
        where
          r : is_round (pass p).phase ≡ true
          r = (k.walker p e).0

          up : (b : Bool) → moves_up (pass p).phase ≡ b → Who (known w.passes) (moved t w ok)
          up true u = By p u (moved-some p u)
          up false u = Nobody (moved-none p r u) (nobody (λ q v. let i : q ≡ p = Order.alone t.rules.limit (view w) ok.shown p q k r (up-round (pass q).phase v) in
              let j : moves_up (pass p).phase ≡ true = subst (λ z. moves_up (pass z).phase ≡ true) i v in cc))

  last-is : (p : ℕ) → is_round (pass p).phase ≡ true → last_marked (mark_of ok.shown) ok.shown.line ≡ suc (pass p).reg.last
  last-is p r = last-number (mark_of ok.shown) (pass p).reg.last ok.shown.line k.prefix (λ z. let a = ok.of_passes.once z in omega arith) (k.last p r).0

  hand-up : (f : Phase) → has_hand f ≡ true → moves_up f ≡ true
  hand-up f e = grind arith

  up-or : (f : Phase) → moves_up f ≡ true → (has_hand f ≡ true) ⊎ (f ≡ Mark)
  up-or Aim e = inl refl
  up-or Place e = inl refl
  up-or Mark e = inr refl
  up-or _ e = absurd (cc)

  detached : (y : ℕ) → link_word ok.shown.hand ≡ suc y → moved t w ok ≡ suc y
  detached y e = by (active_shuffler ok.shown.role) refl
    where
      by : (n : ℕ) → active_shuffler ok.shown.role ≡ n → moved t w ok ≡ suc y
      by zero a = absurd (let h = ap link_word (o.still a) in omega arith)
      by (suc p) a = has (has_hand (pass p).phase) refl (o.round p (k.walker p a).0).hand_is
        where
          has : (b : Bool) → has_hand (pass p).phase ≡ b → link_word ok.shown.hand ≡ cond b (suc (pass p).reg.cand) 0 → moved t w ok ≡ suc y
          has true i h = moved-some p (hand-up (pass p).phase i) ∙ (omega arith)
          has false i h = absurd (omega arith)

  unmarked-by : (p : ℕ) → moves_up (pass p).phase ≡ true → mark_of ok.shown (pass p).reg.cand ≡ 0
  unmarked-by p u = let r = o.round p (up-round (pass p).phase u) in ⊎_elim
      (λ h. k.hand (pass p).reg.cand (r.hand_is ∙ ap (λ b. cond b (suc (pass p).reg.cand) 0) h))
      (λ f. (r.marking f).1)
      (up-or (pass p).phase u)

  pub moved-up : MovedUp ok.shown (moved t w ok)
  moved-up = record { detached = detached; unmarked = λ y e. unmarked y e who; batch = λ h. batch h who }
    where
      unmarked : (y : ℕ) → moved t w ok ≡ suc y → Who (known w.passes) (moved t w ok) → mark_of ok.shown y ≡ 0
      unmarked y e (Nobody z f) = absurd (omega arith)
      unmarked y e (By p u i) = let j : (pass p).reg.cand ≡ y = omega arith in subst (λ z. mark_of ok.shown z ≡ 0) j (unmarked-by p u)

      batch : 0 < moved t w ok → Who (known w.passes) (moved t w ok) → 0 < last_marked (mark_of ok.shown) ok.shown.line
      batch h (Nobody z f) = absurd (omega arith)
      batch h (By p u i) = let a = last-is p (up-round (pass p).phase u) in omega arith

  -- where the candidate gets its batch number it stands directly behind the batch's last
  pub marks-next : (p : ℕ) → (known w.passes p).phase ≡ Mark → follower (batch_end ok.shown) ok.shown.line ≡ suc (known w.passes p).reg.cand
  marks-next p f = let r : is_round (pass p).phase ≡ true = ap is_round f in let m = (o.round p r).marking f in
      let l : 0 < times (pass p).reg.last ok.shown.line = (k.last p r).0.inside in
      let v = Order.scene (view w) ok.shown ok.giver (pass p).reg.last o l in
      let last : batch_end ok.shown ≡ (pass p).reg.last = (let a = last-is p r in omega arith) in
      ap (λ z. follower z ok.shown.line) last ∙ (ap (follower (pass p).reg.last) v.2.line
      ∙ Order.follower-next (view w) v.0 v.1 (pass p).reg.last (pass p).reg.cand v.2.walks v.2.stop v.2.once (subst (λ (z : List ℕ). 0 < times (pass p).reg.last z) v.2.line l) m.0)

  -- the waiter that is put back is the detached one
  pub places-hand : (p : ℕ) → (known w.passes p).phase ≡ Place → link_word ok.shown.hand ≡ suc (known w.passes p).reg.cand
  places-hand p f = (o.round p (ap is_round f)).hand_is ∙ ap (λ g. cond (has_hand g) (suc (pass p).reg.cand) 0) f

-- one pass changes from one lawful world to another
module _ (t : Terms) (w : World) (ok : Lawful t w) (w' : World) (ok' : Lawful t w') (r : ℕ) (else : (z : ℕ) → z ≢ r → known w'.passes z ≡ known w.passes z) where
  other : (z : ℕ) → z ≢ r → moves_up (known w'.passes z).phase ≡ moves_up (known w.passes z).phase
  other z n = ap (λ (q : PassState). moves_up q.phase) (else z n)

  -- whether it moves a waiter up stays, and which
  pub still : moves_up (known w'.passes r).phase ≡ moves_up (known w.passes r).phase → (moves_up (known w.passes r).phase ≡ true → (known w'.passes r).reg.cand ≡ (known w.passes r).reg.cand)
      → moved t w' ok' ≡ moved t w ok
  still same cand = by (who t w ok)
    where
      by : Who (known w.passes) (moved t w ok) → moved t w' ok' ≡ moved t w ok
      by (By p u i) = Chain.by_eq p r
          (λ e. let v : moves_up (known w.passes r).phase ≡ true = subst (λ z. moves_up (known w.passes z).phase ≡ true) e u in
          moved-some t w' ok' r (same ∙ v) ∙ (ap suc (cand v) ∙ (ap (λ z. suc (known w.passes z).reg.cand) (sym e) ∙ sym i)))
          (λ n. moved-some t w' ok' p (other p n ∙ u) ∙ (ap (λ (q : PassState). suc q.reg.cand) (else p n) ∙ sym i))
      by (Nobody z f) = none (who t w' ok')
        where
          none : Who (known w'.passes) (moved t w' ok') → moved t w' ok' ≡ moved t w ok
          none (Nobody y g) = y ∙ sym z
          none (By p u i) = absurd (Chain.by_eq p r
              (λ e. let a = f r in let v : moves_up (known w'.passes r).phase ≡ true = subst (λ z. moves_up (known w'.passes z).phase ≡ true) e u in cc)
              (λ n. let a = f p in let b = other p n in cc))

  -- it begins to move its candidate up
  pub turns-on : is_round (known w.passes r).phase ≡ true → moves_up (known w.passes r).phase ≡ false → moves_up (known w'.passes r).phase ≡ true
      → (moved t w ok ≡ 0) × (moved t w' ok' ≡ suc (known w'.passes r).reg.cand)
  turns-on round off on = (moved-none t w ok r round off, moved-some t w' ok' r on)

  -- it is done with that
  pub turns-off : moves_up (known w.passes r).phase ≡ true → moves_up (known w'.passes r).phase ≡ false
      → (moved t w ok ≡ suc (known w.passes r).reg.cand) × (moved t w' ok' ≡ 0)
  turns-off on off = (moved-some t w ok r on, none (who t w' ok'))
    where
      none : Who (known w'.passes) (moved t w' ok') → moved t w' ok' ≡ 0
      none (Nobody y g) = y
      none (By p u i) = absurd (Chain.by_eq p r
          (λ e. let v : moves_up (known w'.passes r).phase ≡ true = subst (λ z. moves_up (known w'.passes z).phase ≡ true) e u in cc)
          (λ n. n (Order.alone t.rules.limit (view w) ok.shown r p ok.agrees.grouping (up-round (known w.passes r).phase on) (up-round (known w.passes p).phase (sym (other p n) ∙ u)))))
