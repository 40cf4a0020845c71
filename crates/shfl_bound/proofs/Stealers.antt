-- Who takes the lock past the queue: what that event adds, and where it comes.
use Rattle.std.proofs.Common.{◌≡◌, ◌≢◌, ℕ, zero, suc, ◌<◌, ◌⊎◌, List, [], ◌∷◌, ◌++◌, Bool, true, false, cond, ◌==◌, refl, sym, ap, ◌∙◌, inl, inr, ⊎_elim, get_or, arith}
use Rattle.std.specs.Prelude.{◌&&◌, ◌||◌, not, sum_by}
use Rattle.std.proofs.lemmas.List.Sums.{sum_by-cons}
use Rattle.shfl_line.specs.declared.events.Mode.{Mode}
use Rattle.shfl_line.specs.declared.events.Mode.TheVariants.{Write, Read}
use Rattle.shfl_line.specs.declared.events.LineEvent.{LineEvent}
use Rattle.shfl_line.specs.declared.events.LineEvent.TheVariants as event
use Rattle.shfl_line.specs.Words.{held_of, closed_of}
use Rattle.shfl_line.specs.Line.{is_write, writer_count, reader_count}
use Rattle.shfl_core.specs.declared.phase.Phase.{Phase}
use Rattle.shfl_core.specs.declared.phase.Phase.TheVariants as phase
use Rattle.shfl_core.specs.declared.phase.Nap.{Nap}
use Rattle.shfl_core.specs.declared.phase.Nap.TheVariants.{Awake}
use Rattle.shfl_core.specs.declared.phase.PassState.{PassState}
use Rattle.shfl_core.specs.declared.phase.Rules.{Rules}
use Rattle.shfl_core.specs.declared.words.Word.TheVariants.{Lock}
use Rattle.shfl_core.specs.Words.{look, site}
use Rattle.shfl_core.specs.Plan.{plan, moving, is_awake, shares, attempt_plan}
use Rattle.shfl_core.specs.Phases.{is_holding, is_reading}
use Rattle.shfl_core.specs.Waiting.{idle}
use Rattle.shfl_core.specs.Worlds.{World, known, Acquire, Release, Step}
use Rattle.shfl_core.specs.Events.{event as event_of, event_at, attempt_event}
use Rattle.shfl_core.specs.Holding.{write_of, read_of}
use Rattle.shfl_core.specs.Lawful.{Terms, Lawful}
use Rattle.shfl_laws.proofs.rows.Counts.{write-in, read-in}
use Rattle.shfl_laws.proofs.laws.Stealing.{steals-where-enabled, attempts-where-enabled}
use Rattle.shfl_laws.specs.Changes.{Change, Moves, Tries, Disables, Fills, Replaces, is_idle_there, change_event, MayChange}
use Rattle.shfl_bound.specs.Stealing.{is_enabling_at, enablers, stealer, stolen_before}
use Rattle.shfl_bound.proofs.Enabling.{one}
use Rattle.shfl_bound.proofs.Enabled.{departs, stays-on}

-- what an event adds to who has come past x
pub stolen-more : (x : ℕ) (e : LineEvent) (es : List LineEvent) → e ≢ event.Leave x → stolen_before x (e ∷ es) ≡ stealer e ++ stolen_before x es
stolen-more x (event.Leave p) es n = ap (λ b. cond b [] (stolen_before x es)) (stays-on x (event.Leave p) n)
stolen-more x (event.Steal p mode) es n = refl
stolen-more x (event.Join p) es n = refl
stolen-more x (event.Grab p mode) es n = refl
stolen-more x (event.Release p) es n = refl
stolen-more x (event.Begin p) es n = refl
stolen-more x (event.Rest p) es n = refl
stolen-more x (event.Pick p y) es n = refl
stolen-more x (event.Place p) es n = refl
stolen-more x (event.Keep p) es n = refl
stolen-more x (event.Give p) es n = refl
stolen-more x event.Nothing es n = refl

pub stolen-none : (x : ℕ) (e : LineEvent) (es : List LineEvent) → e ≡ event.Leave x → stolen_before x (e ∷ es) ≡ []
stolen-none x e es i = ap (λ (d : LineEvent). stolen_before x (d ∷ es)) i ∙ ap (λ b. cond b [] (stolen_before x es)) (departs x (event.Leave x) refl)

-- an event takes the lock past the queue, or doesn't
pub steal-or : (e : LineEvent) → ((p : ℕ) × (mode : Mode) × (e ≡ event.Steal p mode)) ⊎ (stealer e ≡ [])
steal-or (event.Steal p mode) = inl (p, mode, refl)
steal-or (event.Join p) = inr refl
steal-or (event.Grab p mode) = inr refl
steal-or (event.Leave p) = inr refl
steal-or (event.Release p) = inr refl
steal-or (event.Begin p) = inr refl
steal-or (event.Rest p) = inr refl
steal-or (event.Pick p y) = inr refl
steal-or (event.Place p) = inr refl
steal-or (event.Keep p) = inr refl
steal-or (event.Give p) = inr refl
steal-or event.Nothing = inr refl

-- a step by which a pass takes the lock past the queue is its own, and a reader's where it counts itself in
step-steals : (t : Rules) (r : ℕ) (q : PassState) (n p : ℕ) (mode : Mode) → event_of t r q n ≡ event.Steal p mode → (p ≡ r) × ((mode ≡ Write) ⊎ (q.phase ≡ phase.Count))
step-steals t r q n p mode e = by-nap q.nap e
  where
    writes : (b : Bool) → cond b (event.Steal r Write) event.Nothing ≡ event.Steal p mode → (p ≡ r) × (mode ≡ Write)
    writes true e = (cc, cc)
    writes false e = absurd (cc)

    reads : (b : Bool) → cond b event.Nothing (event.Steal r Read) ≡ event.Steal p mode → p ≡ r
    reads true e = absurd (cc)
    reads false e = cc

    at : (f : Phase) → event_at t r q.reg n f ≡ event.Steal p mode → (p ≡ r) × ((mode ≡ Write) ⊎ (f ≡ phase.Count))
    at phase.Steal e = let k = writes (n == 0) e in (k.0, inl k.1)
    at phase.Count e = (reads (held_of n || closed_of n) e, inr refl)
    at f e = absurd (grind arith)

    by-nap : (x : Nap) → cond (is_awake x) (event_at t r q.reg n q.phase) event.Nothing ≡ event.Steal p mode → (p ≡ r) × ((mode ≡ Write) ⊎ (q.phase ≡ phase.Count))
    by-nap Awake e = at q.phase e
    by-nap x e = absurd (grind arith)

attempt-steals : (tries : Mode) (r n p : ℕ) (mode : Mode) → attempt_event tries r n ≡ event.Steal p mode → (p ≡ r) × (mode ≡ tries)
attempt-steals Write r n p mode e = by (n == 0) e
  where
    by : (b : Bool) → cond b (event.Steal r Write) event.Nothing ≡ event.Steal p mode → (p ≡ r) × (mode ≡ Write)
    by true e = (cc, cc)
    by false e = absurd (cc)
attempt-steals Read r n p mode e = by (held_of n || closed_of n) e
  where
    by : (b : Bool) → cond b event.Nothing (event.Steal r Read) ≡ event.Steal p mode → (p ≡ r) × (mode ≡ Read)
    by true e = absurd (cc)
    by false e = (cc, cc)

-- whoever takes the lock past the queue finds stealing enabled, and writes in a form without readers
pub record Steals (t : Terms) (w : World) (mode : Mode) : Type 0 where
  pub enabled : closed_of (look w.words Lock) ≡ false
  pub writes : shares t.rules.form ≡ false → mode ≡ Write

pub steals : (t : Terms) (w : World) (ok : Lawful t w) (c : Change) (p : ℕ) (mode : Mode) → MayChange t.rules.form c → change_event t.rules w c ≡ event.Steal p mode → Steals t w mode
steals t w ok (Moves (Acquire r m)) p mode may e = absurd (cc)
steals t w ok (Moves (Release r)) p mode may e = absurd (cc)
steals t w ok (Moves (Step r c)) p mode may e = by (moving (known w.passes r)) e
  where
    found : ℕ
    found = look w.words (site (plan t.rules r (known w.passes r)))

    by : (b : Bool) → cond b (event_of t.rules r (known w.passes r) found) event.Nothing ≡ event.Steal p mode → Steals t w mode
    by true e = let k = step-steals t.rules r (known w.passes r) found p mode e in record {
      enabled = steals-where-enabled t w r (known w.passes r) mode (e ∙ ap (λ z. event.Steal z mode) k.0);
      writes = λ none. ⊎_elim (λ h. h)
          (λ h. absurd (let a = ok.agrees.registered.reading r (ap is_reading h) in let b = ok.agrees.registered.writers none r (λ i. (let z : phase.Count ≡ phase.Idle = sym h ∙ i in cc)) in cc)) k.1;
    }
    by false e = absurd (cc)
steals t w ok (Tries r m) p mode may e = by (is_idle_there w r) e
  where
    found : ℕ
    found = look w.words (site (attempt_plan m))

    by : (b : Bool) → cond b (attempt_event m r found) event.Nothing ≡ event.Steal p mode → Steals t w mode
    by true e = let k = attempt-steals m r found p mode e in record {
      enabled = attempts-where-enabled w r m mode (e ∙ ap (λ z. event.Steal z mode) k.0);
      writes = λ none. k.1 ∙ may none;
    }
    by false e = absurd (cc)
steals t w ok (Disables z) p mode may e = absurd (cc)
steals t w ok Fills p mode may e = absurd (cc)
steals t w ok (Replaces q r) p mode may e = absurd (cc)

-- a writer takes the lock where nobody holds, so nobody is about to enable stealing then
some-one : (l : List PassState) (d : ℕ → PassState) → 0 < sum_by one l → (i : ℕ) × (is_enabling_at (get_or l i (d i)).phase ≡ true)
some-one [] d h = absurd (omega arith)
some-one (q ∷ qs) d h = by (is_enabling_at q.phase) refl (some-one qs (λ i. d (suc i)))
  where
    by : (b : Bool) → is_enabling_at q.phase ≡ b → (0 < sum_by one qs → (i : ℕ) × (is_enabling_at (get_or qs i (d (suc i))).phase ≡ true)) → (i : ℕ) × (is_enabling_at (get_or (q ∷ qs) i (d i)).phase ≡ true)
    by true e rec = (0, e)
    by false e rec = let k = rec (let a : one q ≡ 0 = ap (λ b. cond b 1 0) e in let c = sum_by-cons one q qs in omega arith) in (suc k.0, k.1)

open-is : (f : Phase) → is_enabling_at f ≡ true → is_holding f ≡ true
open-is phase.Open e = refl
open-is f e = absurd (grind arith)

pub none-enables : (t : Terms) (w : World) (ok : Lawful t w) → writer_count ok.shown.hold ≡ 0 → reader_count ok.shown.hold ≡ 0 → enablers w ≡ 0
none-enables t w ok f g = zero-or (enablers w) (λ h. some (some-one w.passes idle h))
  where
    zero-or : (n : ℕ) → (0 < n → ⊥) → n ≡ 0
    zero-or zero h = refl
    zero-or (suc n) h = absurd (h (omega arith))

    some : (i : ℕ) × (is_enabling_at (known w.passes i).phase ≡ true) → ⊥
    some k = let q = known w.passes k.0 in let a = ok.agrees.holding.writer k.0 in let b = ok.agrees.holding.reader k.0 in
        let c = write-in k.0 ok.shown.hold in let d = read-in k.0 ok.shown.hold in by (is_write q.reg.mode) refl (open-is q.phase k.1) a b
      where
        by : (m : Bool) → is_write (known w.passes k.0).reg.mode ≡ m → is_holding (known w.passes k.0).phase ≡ true
            → write_of k.0 ok.shown.hold ≡ cond (is_holding (known w.passes k.0).phase && is_write (known w.passes k.0).reg.mode) 1 0
            → read_of k.0 ok.shown.hold ≡ cond (is_holding (known w.passes k.0).phase && not (is_write (known w.passes k.0).reg.mode)) 1 0 → ⊥
        by true m h a b = let z : write_of k.0 ok.shown.hold ≡ 1 = a ∙ (λ j. cond (h j && m j) 1 0) in let c = write-in k.0 ok.shown.hold in omega arith
        by false m h a b = let z : read_of k.0 ok.shown.hold ≡ 1 = b ∙ (λ j. cond (h j && not (m j)) 1 0) in let c = read-in k.0 ok.shown.hold in omega arith
