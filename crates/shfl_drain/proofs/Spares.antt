-- Which batch numbers an event leaves as they are.
use Rattle.std.proofs.Common.{◌≡◌, ◌≢◌, ℕ, zero, suc, ◌+◌, ◌-◌, ◌<◌, Bool, true, false, cond, ◌==◌, length, get_or-set_other, refl, sym, ap, ◌∙◌, subst, ⊎_elim, arith}
use Rattle.std.specs.Prelude.{nat_lt, ◌||◌, slice_index, slice_set}
use Rattle.shfl_line.specs.declared.events.Mode.TheVariants.{Write, Read}
use Rattle.shfl_line.specs.declared.events.LineEvent.{LineEvent}
use Rattle.shfl_line.specs.declared.events.LineEvent.TheVariants as event
use Rattle.shfl_line.specs.Words.{held_of, closed_of}
use Rattle.shfl_line.specs.Passes.{follower}
use Rattle.shfl_line.specs.Line.{Line, mark_of}
use Rattle.shfl_line.specs.Steps.{after, batch_end, begun_mark}
use Rattle.shfl_line.proofs.Chain
use Rattle.shfl_line.proofs.Batches.{mark-set}
use Rattle.shfl_core.specs.declared.phase.Phase.{Phase}
use Rattle.shfl_core.specs.declared.phase.Phase.TheVariants as phase
use Rattle.shfl_core.specs.declared.phase.Registers.{Registers as Regs}
use Rattle.shfl_core.specs.declared.phase.Rules.{Rules}
use Rattle.shfl_core.specs.Plan.{round_batch}
use Rattle.shfl_core.specs.Events.{event_at, leave_found}
use Rattle.shfl_core.proofs.Lists.{past, below-or}

-- the event changes no batch number but the pass's own
abbrev pub Spares : ℕ → LineEvent → Type 0
Spares p (event.Join q) = q ≡ p
Spares p (event.Leave q) = q ≡ p
Spares p (event.Begin q) = q ≡ p
Spares p (event.Rest q) = q ≡ p
Spares p (event.Keep q) = ⊥
Spares p _ = Unit {0}

-- nor that one
abbrev pub Quiet : LineEvent → Type 0
Quiet (event.Join q) = ⊥
Quiet (event.Leave q) = ⊥
Quiet (event.Begin q) = ⊥
Quiet (event.Rest q) = ⊥
Quiet (event.Keep q) = ⊥
Quiet _ = Unit {0}

pub marks-spared : (s : Line) (p z : ℕ) (e : LineEvent) → Spares p e → z ≢ p → mark_of (after s e) z ≡ mark_of s z
marks-spared s p z (event.Join q) h n = get_or-set_other s.mark q z 0 0 (λ i. n (i ∙ h))
marks-spared s p z (event.Leave q) h n = get_or-set_other s.mark q z 0 0 (λ i. n (i ∙ h))
marks-spared s p z (event.Begin q) h n = get_or-set_other s.mark q z (begun_mark (mark_of s q)) 0 (λ i. n (i ∙ h))
marks-spared s p z (event.Rest q) h n = get_or-set_other s.mark q z (begun_mark (mark_of s q)) 0 (λ i. n (i ∙ h))
marks-spared s p z (event.Keep q) h n = absurd h
marks-spared s p z _ h n = refl

pub marks-quiet : (s : Line) (z : ℕ) (e : LineEvent) → Quiet e → mark_of (after s e) z ≡ mark_of s z
marks-quiet s z (event.Join q) h = absurd h
marks-quiet s z (event.Leave q) h = absurd h
marks-quiet s z (event.Begin q) h = absurd h
marks-quiet s z (event.Rest q) h = absurd h
marks-quiet s z (event.Keep q) h = absurd h
marks-quiet s z _ h = refl

grows : (s : Line) (f v z : ℕ) → slice_index (slice_set s.mark f (v + 1)) z ≡ 0 → mark_of s z ≡ 0
grows s f v z e = Chain.by_eq z f
    (λ i. ⊎_elim
    (λ b. absurd (let a : slice_index (slice_set s.mark f (v + 1)) z ≡ v + 1 = ap (slice_index (slice_set s.mark f (v + 1))) i ∙ (mark-set s.mark f (v + 1) f b ∙ Chain.updated-same (mark_of s) f (v + 1)) in omega arith))
    (λ b. ap (mark_of s) i ∙ past s.mark f 0 b)
    (below-or f (length s.mark)))
    (λ n. sym (get_or-set_other s.mark f z (v + 1) 0 n) ∙ e)

-- a batch that grows takes no number away
pub marks-kept : (s : Line) (p z : ℕ) → mark_of (after s (event.Keep p)) z ≡ 0 → mark_of s z ≡ 0
marks-kept s p z e = grows s (follower (batch_end s) s.line - 1) (mark_of s (batch_end s)) z e

-- a round that begins gives its shuffler a number
pub begun-some : (m : ℕ) → 0 < begun_mark m
begun-some zero = omega arith
begun-some (suc m) = by (suc m == 0)
  where
    by : (b : Bool) → 0 < cond b 1 (suc m)
    by true = omega arith
    by false = omega arith

pub marks-begun : (s : Line) (p v : ℕ) (b : Bool) → p < length s.mark → 0 < mark_of (after s (cond b (event.Begin p) (event.Rest p))) p
marks-begun s p v true h = let a = mark-set s.mark p (begun_mark (mark_of s p)) p h ∙ Chain.updated-same (mark_of s) p (begun_mark (mark_of s p)) in let c = begun-some (mark_of s p) in subst (λ n. 0 < n) (sym a) c
marks-begun s p v false h = let a = mark-set s.mark p (begun_mark (mark_of s p)) p h ∙ Chain.updated-same (mark_of s) p (begun_mark (mark_of s p)) in let c = begun-some (mark_of s p) in subst (λ n. 0 < n) (sym a) c

either : (p : ℕ) (b : Bool) (e d : LineEvent) → Spares p e → Spares p d → Spares p (cond b e d)
either p true e d x y = x
either p false e d x y = y

leaves : (p n : ℕ) → Spares p (leave_found p n)
leaves p zero = tt
leaves p (suc n) = refl

abbrev pub is_mark : Phase → Bool
is_mark phase.Mark = true
is_mark _ = false

pub spares-at : (t : Rules) (p : ℕ) (r : Regs) (n : ℕ) (f : Phase) → is_mark f ≡ false → Spares p (event_at t p r n f)
spares-at t p r n phase.Steal e = either p (n == 0) (event.Steal p Write) event.Nothing tt tt
spares-at t p r n phase.Swap e = refl
spares-at t p r n phase.Begin e = either p (nat_lt (round_batch r) t.limit) (event.Begin p) (event.Rest p) refl refl
spares-at t p r n phase.Pick e = tt
spares-at t p r n phase.Place e = tt
spares-at t p r n phase.Mark e = absurd (cc)
spares-at t p r n phase.Give e = tt
spares-at t p r n phase.Grab e = either p (held_of n) event.Nothing (event.Grab p Write) tt tt
spares-at t p r n phase.WriteGrab e = either p (n == r.saw) (event.Grab p Write) event.Nothing tt tt
spares-at t p r n phase.Take e = leaves p n
spares-at t p r n phase.Cut e = either p (n == p + 1) (event.Leave p) event.Nothing refl tt
spares-at t p r n phase.Late e = leaves p n
spares-at t p r n phase.Release e = tt
spares-at t p r n phase.Count e = either p (held_of n || closed_of n) event.Nothing (event.Steal p Read) tt tt
spares-at t p r n phase.HeadCount e = either p (held_of n) event.Nothing (event.Grab p Read) tt tt
spares-at t p r n phase.HeadLook e = either p (held_of n) event.Nothing (event.Grab p Read) tt tt
spares-at t p r n phase.ReadRelease e = tt
spares-at t p r n _ e = tt
