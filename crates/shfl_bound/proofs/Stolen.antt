-- How many come past a waiter, over any changes.
use Rattle.std.proofs.Common.{◌≡◌, ◌≢◌, ℕ, ◌+◌, ◌-◌, ◌*◌, ◌≤◌, ◌⊎◌, List, [], ◌∷◌, ◌++◌, Bool, true, false, cond, length, refl, sym, ap, ◌∙◌, inl, inr, subst, ⊎_elim, length-append, arith}
use Rattle.std.specs.Prelude.{◌&&◌, not}
use Rattle.std.proofs.lemmas.Nat.{mul-le}
use Rattle.shfl_line.specs.declared.events.Mode.{Mode}
use Rattle.shfl_line.specs.declared.events.Mode.TheVariants.{Write, Read}
use Rattle.shfl_line.specs.declared.events.LineEvent.{LineEvent}
use Rattle.shfl_line.specs.declared.events.LineEvent.TheVariants as event
use Rattle.shfl_line.specs.Line.{is_write, writer_count}
use Rattle.shfl_line.specs.Steps.{Admits}
use Rattle.shfl_core.specs.Plan.{shares}
use Rattle.shfl_core.specs.Worlds.{World}
use Rattle.shfl_core.specs.Lawful.{Terms, Lawful, Advances}
use Rattle.shfl_laws.specs.Changes.{Change, after_change, change_event, shown_events, EachMayChange}
use Rattle.shfl_bound.specs.Departures.{Waits}
use Rattle.shfl_bound.specs.Stealing.{is_enabled, enablers, enabled_between, stealer, stolen_before, IsDisabledAfter, StolenBound, WriterStolenBound, ExclusiveStolenBound, NoneStolen}
use Rattle.shfl_bound.proofs.Staying.{own-or}
use Rattle.shfl_bound.proofs.ChangeLaws.{change-law}
use Rattle.shfl_bound.proofs.Bound.{waits-on}
use Rattle.shfl_bound.proofs.Enabled.{once}
use Rattle.shfl_bound.proofs.Stealers.{stolen-more, stolen-none, steal-or, steals, none-enables}

-- the bound, while n may still come before stealing is disabled
step-count : (m n s more old new : ℕ) (a b : Bool) → n ≤ m → s ≤ n → (a ≡ false → s ≡ 0) → cond (not a && b) 1 0 + new ≤ old → more ≤ m * new + cond b (cond b (n - s) m) 0
    → s + more ≤ m * old + cond a n 0
step-count m n s more old new true true k l z o h = let e : m * new ≤ m * old = mul-le m new m old (omega arith) (omega arith) in omega arith
step-count m n s more old new true false k l z o h = let e : m * new ≤ m * old = mul-le m new m old (omega arith) (omega arith) in omega arith
step-count m n s more old new false true k l z o h = let y = z refl in let e : m * (1 + new) ≤ m * old = mul-le m (1 + new) m old (omega arith) o in let d : m * (1 + new) ≡ m + m * new = grind arith in omega arith
step-count m n s more old new false false k l z o h = let y = z refl in let e : m * new ≤ m * old = mul-le m new m old (omega arith) (omega arith) in omega arith

left-most : (b : Bool) (m n s : ℕ) → n ≤ m → cond b (n - s) m ≤ m
left-most true m n s k = omega arith
left-most false m n s k = omega arith

counts : (t : Terms) (m n : ℕ) → n ≤ m → (cs : List Change) (w : World) (ok : Lawful t w) (x : ℕ) → EachMayChange t.rules.form cs → Waits ok.shown x → IsDisabledAfter m n t.rules w cs
    → length (stolen_before x (shown_events t.rules w cs)) ≤ m * enablers w + cond (is_enabled w) n 0
counts t m n k [] w ok x may waits d = omega arith
counts t m n k (c ∷ rest) w ok x may waits d = let a = change-law t w c ok may.0 in by a (own-or x (change_event t.rules w c))
    (counts t m (cond (is_enabled (after_change t.rules w c)) (n - length (stealer (change_event t.rules w c))) m) (left-most (is_enabled (after_change t.rules w c)) m n (length (stealer (change_event t.rules w c))) k)
    rest (after_change t.rules w c) a.lawful x may.1)
  where
    disabled : is_enabled w ≡ false → length (stealer (change_event t.rules w c)) ≡ 0
    disabled f = ⊎_elim
        (λ s. absurd (let z = (steals t w ok c s.0 s.1 may.0 s.2).enabled in let y : is_enabled w ≡ true = ap not z in cc))
        (λ z. ap length z) (steal-or (change_event t.rules w c))

    by : (a : Advances t w ok (change_event t.rules w c) (after_change t.rules w c)) → (change_event t.rules w c ≡ event.Leave x) ⊎ (change_event t.rules w c ≢ event.Leave x)
        → (Waits a.lawful.shown x → IsDisabledAfter m (cond (is_enabled (after_change t.rules w c)) (n - length (stealer (change_event t.rules w c))) m) t.rules (after_change t.rules w c) rest
        → length (stolen_before x (shown_events t.rules (after_change t.rules w c) rest)) ≤ m * enablers (after_change t.rules w c)
        + cond (is_enabled (after_change t.rules w c)) (cond (is_enabled (after_change t.rules w c)) (n - length (stealer (change_event t.rules w c))) m) 0)
        → length (stolen_before x (change_event t.rules w c ∷ shown_events t.rules (after_change t.rules w c) rest)) ≤ m * enablers w + cond (is_enabled w) n 0
    by a (inl own) ih = let z = ap length (stolen-none x (change_event t.rules w c) (shown_events t.rules (after_change t.rules w c) rest) own) in omega arith
    by a (inr other) ih = let u = ih (waits-on t w ok x (change_event t.rules w c) (after_change t.rules w c) a waits other) d.1 in
        let o = once t w ok x c may.0 waits other in
        let l = ap length (stolen-more x (change_event t.rules w c) (shown_events t.rules (after_change t.rules w c) rest) other) in
        let j = length-append (stealer (change_event t.rules w c)) (stolen_before x (shown_events t.rules (after_change t.rules w c) rest)) in
        let r = step-count m n (length (stealer (change_event t.rules w c))) (length (stolen_before x (shown_events t.rules (after_change t.rules w c) rest))) (enablers w) (enablers (after_change t.rules w c))
        (is_enabled w) (is_enabled (after_change t.rules w c)) k d.0 disabled o u in omega arith

pub stolen-bound : (t : Terms) → StolenBound t
stolen-bound t m w ok x cs may waits d = counts t m m (omega arith) cs w ok x may waits d

writers-append : (l k : List (ℕ × Mode)) → writer_count (l ++ k) ≡ writer_count l + writer_count k
writers-append [] k = omega arith
writers-append (z ∷ zs) k = let b = writers-append zs k in omega arith

writers-most : (l : List (ℕ × Mode)) → writer_count l ≤ length l
writers-most [] = omega arith
writers-most (z ∷ zs) = let a = writers-most zs in let b = by (is_write z.1) in omega arith
  where
    by : (c : Bool) → cond c 1 0 ≤ 1
    by true = omega arith
    by false = omega arith

-- a writer comes past the queue by the event, or none does
writer-or : (e : LineEvent) → ((p : ℕ) × (e ≡ event.Steal p Write)) ⊎ (writer_count (stealer e) ≡ 0)
writer-or e = ⊎_elim (λ s. by s.0 s.1 s.2) (λ z. inr (ap writer_count z)) (steal-or e)
  where
    by : (p : ℕ) (mode : Mode) → e ≡ event.Steal p mode → ((p : ℕ) × (e ≡ event.Steal p Write)) ⊎ (writer_count (stealer e) ≡ 0)
    by p Write i = inl (p, i)
    by p Read i = inr (ap (λ (d : LineEvent). writer_count (stealer d)) i)

at-most : (b : Bool) (n m : ℕ) → n ≤ m → cond b n 0 ≤ m
at-most true n m k = k
at-most false n m k = omega arith

writers : (t : Terms) (m n : ℕ) → n ≤ m → (cs : List Change) (w : World) (ok : Lawful t w) (x : ℕ) → EachMayChange t.rules.form cs → Waits ok.shown x → IsDisabledAfter m n t.rules w cs
    → writer_count (stolen_before x (shown_events t.rules w cs)) ≤ m
writers t m n k [] w ok x may waits d = omega arith
writers t m n k (c ∷ rest) w ok x may waits d = let a = change-law t w c ok may.0 in by a (own-or x (change_event t.rules w c)) (writer-or (change_event t.rules w c))
    (writers t m (cond (is_enabled (after_change t.rules w c)) (n - length (stealer (change_event t.rules w c))) m) (left-most (is_enabled (after_change t.rules w c)) m n (length (stealer (change_event t.rules w c))) k)
    rest (after_change t.rules w c) a.lawful x may.1)
  where
    by : (a : Advances t w ok (change_event t.rules w c) (after_change t.rules w c)) → (change_event t.rules w c ≡ event.Leave x) ⊎ (change_event t.rules w c ≢ event.Leave x)
        → ((p : ℕ) × (change_event t.rules w c ≡ event.Steal p Write)) ⊎ (writer_count (stealer (change_event t.rules w c)) ≡ 0)
        → (Waits a.lawful.shown x → IsDisabledAfter m (cond (is_enabled (after_change t.rules w c)) (n - length (stealer (change_event t.rules w c))) m) t.rules (after_change t.rules w c) rest
        → writer_count (stolen_before x (shown_events t.rules (after_change t.rules w c) rest)) ≤ m)
        → writer_count (stolen_before x (change_event t.rules w c ∷ shown_events t.rules (after_change t.rules w c) rest)) ≤ m
    by a (inl own) g ih = let z = ap writer_count (stolen-none x (change_event t.rules w c) (shown_events t.rules (after_change t.rules w c) rest) own) in omega arith
    by a (inr other) (inl s) ih = let free = (subst (Admits t.rules.limit ok.shown) s.1 a.admitted).0 in let none = none-enables t w ok free.0 free.1 in
        let all = counts t m n k (c ∷ rest) w ok x may waits d in let few = writers-most (stolen_before x (change_event t.rules w c ∷ shown_events t.rules (after_change t.rules w c) rest)) in
        let o = at-most (is_enabled w) n m k in let z : m * enablers w ≡ m * 0 = ap (λ z. m * z) none in omega arith
    by a (inr other) (inr none) ih = let u = ih (waits-on t w ok x (change_event t.rules w c) (after_change t.rules w c) a waits other) d.1 in
        let l = ap writer_count (stolen-more x (change_event t.rules w c) (shown_events t.rules (after_change t.rules w c) rest) other) in
        let j = writers-append (stealer (change_event t.rules w c)) (stolen_before x (shown_events t.rules (after_change t.rules w c) rest)) in omega arith

pub writer-stolen-bound : (t : Terms) → WriterStolenBound t
writer-stolen-bound t m w ok x cs may waits d = writers t m m (omega arith) cs w ok x may waits d

-- without readers all who come past the queue write
all-write : (t : Terms) → shares t.rules.form ≡ false → (cs : List Change) (w : World) (ok : Lawful t w) (x : ℕ) → EachMayChange t.rules.form cs
    → length (stolen_before x (shown_events t.rules w cs)) ≡ writer_count (stolen_before x (shown_events t.rules w cs))
all-write t sole [] w ok x may = refl
all-write t sole (c ∷ rest) w ok x may = let a = change-law t w c ok may.0 in by (own-or x (change_event t.rules w c)) (all-write t sole rest (after_change t.rules w c) a.lawful x may.1)
  where
    stealers : length (stealer (change_event t.rules w c)) ≡ writer_count (stealer (change_event t.rules w c))
    stealers = ⊎_elim
        (λ s. let z = (steals t w ok c s.0 s.1 may.0 s.2).writes sole in let i : change_event t.rules w c ≡ event.Steal s.0 Write = s.2 ∙ ap (λ m. event.Steal s.0 m) z in
        ap (λ (d : LineEvent). length (stealer d)) i ∙ sym (ap (λ (d : LineEvent). writer_count (stealer d)) i))
        (λ z. ap length z ∙ sym (ap writer_count z)) (steal-or (change_event t.rules w c))

    by : (change_event t.rules w c ≡ event.Leave x) ⊎ (change_event t.rules w c ≢ event.Leave x)
        → length (stolen_before x (shown_events t.rules (after_change t.rules w c) rest)) ≡ writer_count (stolen_before x (shown_events t.rules (after_change t.rules w c) rest))
        → length (stolen_before x (change_event t.rules w c ∷ shown_events t.rules (after_change t.rules w c) rest)) ≡ writer_count (stolen_before x (change_event t.rules w c ∷ shown_events t.rules (after_change t.rules w c) rest))
    by (inl own) ih = let z = stolen-none x (change_event t.rules w c) (shown_events t.rules (after_change t.rules w c) rest) own in ap length z ∙ sym (ap writer_count z)
    by (inr other) ih = let z = stolen-more x (change_event t.rules w c) (shown_events t.rules (after_change t.rules w c) rest) other in
        let l = length-append (stealer (change_event t.rules w c)) (stolen_before x (shown_events t.rules (after_change t.rules w c) rest)) in
        let j = writers-append (stealer (change_event t.rules w c)) (stolen_before x (shown_events t.rules (after_change t.rules w c) rest)) in
        let f = ap length z in let g = ap writer_count z in let h = stealers in omega arith

pub exclusive-stolen-bound : (t : Terms) → ExclusiveStolenBound t
exclusive-stolen-bound t m w ok x cs sole may waits d = let a = all-write t sole cs w ok x may in let b = writer-stolen-bound t m w ok x cs may waits d in omega arith

-- nobody about to enable stealing, and it is disabled: so it stays
pub none-stolen : (t : Terms) → NoneStolen t
none-stolen t w ok x [] may waits none off = refl
none-stolen t w ok x (c ∷ rest) may waits none off = let a = change-law t w c ok may.0 in by a (own-or x (change_event t.rules w c)) (none-stolen t (after_change t.rules w c) a.lawful x rest may.1)
  where
    nobody : stealer (change_event t.rules w c) ≡ []
    nobody = ⊎_elim
        (λ s. absurd (let z = (steals t w ok c s.0 s.1 may.0 s.2).enabled in let y : is_enabled w ≡ true = ap not z in cc))
        (λ z. z) (steal-or (change_event t.rules w c))

    off-too : (b : Bool) → is_enabled (after_change t.rules w c) ≡ b → enabled_between w (after_change t.rules w c) ≡ 0 → is_enabled (after_change t.rules w c) ≡ false
    off-too true i e = absurd (let z : enabled_between w (after_change t.rules w c) ≡ 1 = (λ j. cond (not (off j) && i j) 1 0) in omega arith)
    off-too false i e = i

    by : (a : Advances t w ok (change_event t.rules w c) (after_change t.rules w c)) → (change_event t.rules w c ≡ event.Leave x) ⊎ (change_event t.rules w c ≢ event.Leave x)
        → (Waits a.lawful.shown x → enablers (after_change t.rules w c) ≡ 0 → is_enabled (after_change t.rules w c) ≡ false → stolen_before x (shown_events t.rules (after_change t.rules w c) rest) ≡ [])
        → stolen_before x (change_event t.rules w c ∷ shown_events t.rules (after_change t.rules w c) rest) ≡ []
    by a (inl own) ih = stolen-none x (change_event t.rules w c) (shown_events t.rules (after_change t.rules w c) rest) own
    by a (inr other) ih = let o = once t w ok x c may.0 waits other in
        stolen-more x (change_event t.rules w c) (shown_events t.rules (after_change t.rules w c) rest) other
        ∙ (λ j. nobody j ++ ih (waits-on t w ok x (change_event t.rules w c) (after_change t.rules w c) a waits other) (omega arith) (off-too (is_enabled (after_change t.rules w c)) refl (omega arith)) j)
