-- Who takes the lock past a waiter, and who enables stealing while it waits.
use Rattle.std.specs.Prelude.{◌≡◌, ◌≢◌, ℕ, ◌+◌, ◌-◌, ◌*◌, ◌≤◌, List, [], ◌∷◌, Bool, true, false, cond, ◌==◌, ◌&&◌, not, length, sum_by}
use Rattle.shfl_line.specs.declared.events.Mode.{Mode}
use Rattle.shfl_line.specs.declared.events.LineEvent.{LineEvent}
use Rattle.shfl_line.specs.declared.events.LineEvent.TheVariants.{Steal, Leave}
use Rattle.shfl_line.specs.Words.{closed_of}
use Rattle.shfl_line.specs.Line.{writer_count}
use Rattle.shfl_core.specs.declared.phase.Phase.{Phase}
use Rattle.shfl_core.specs.declared.phase.Phase.TheVariants.{Open}
use Rattle.shfl_core.specs.declared.phase.PassState.{PassState}
use Rattle.shfl_core.specs.declared.phase.Rules.{Rules}
use Rattle.shfl_core.specs.declared.words.Word.TheVariants.{Lock}
use Rattle.shfl_core.specs.Words.{look}
use Rattle.shfl_core.specs.Plan.{shares}
use Rattle.shfl_core.specs.Worlds.{World, known}
use Rattle.shfl_core.specs.Lawful.{Terms, Lawful}
use Rattle.shfl_laws.specs.Changes.{Change, after_change, change_event, shown_events, MayChange, EachMayChange}
use Rattle.shfl_bound.specs.Departures.{Waits}

abbrev pub is_enabled : World → Bool
is_enabled w = not (closed_of (look w.words Lock))

-- the pass left the queue last, and its next step enables stealing
abbrev pub is_enabling_at : Phase → Bool
is_enabling_at Open = true
is_enabling_at _ = false

abbrev pub is_enabling : World → ℕ → Bool
is_enabling w p = is_enabling_at (known w.passes p).phase

-- how many such passes there are
abbrev pub enablers : World → ℕ
enablers w = sum_by (λ (q : PassState). cond (is_enabling_at q.phase) 1 0) w.passes

-- between the two worlds stealing was enabled again
abbrev pub enabled_between : World → World → ℕ
enabled_between old new = cond (not (is_enabled old) && is_enabled new) 1 0

abbrev pub is_departure : ℕ → LineEvent → Bool
is_departure x (Leave p) = p == x
is_departure x _ = false

-- how often these changes enable stealing again, until x leaves
abbrev pub times_enabled : Rules → ℕ → World → List Change → ℕ
times_enabled t x w [] = 0
times_enabled t x w (c ∷ rest) = cond (is_departure x (change_event t w c)) 0
    (enabled_between w (after_change t w c) + times_enabled t x (after_change t w c) rest)

-- who takes the lock past the queue by the event, and how, or nobody
abbrev pub stealer : LineEvent → List (ℕ × Mode)
stealer (Steal p mode) = (p, mode) ∷ []
stealer _ = []

-- who takes the lock past the queue by these events before x leaves, in their order
abbrev pub stolen_before : ℕ → List LineEvent → List (ℕ × Mode)
stolen_before x [] = []
stolen_before x (Steal p mode ∷ rest) = (p, mode) ∷ stolen_before x rest
stolen_before x (Leave p ∷ rest) = cond (p == x) [] (stolen_before x rest)
stolen_before x (_ ∷ rest) = stolen_before x rest

-- stealing is disabled again after at most m steals, each time; of the first m there are n left
abbrev pub IsDisabledAfter : ℕ → ℕ → Rules → World → List Change → Type 0
IsDisabledAfter m n t w [] = Unit {0}
IsDisabledAfter m n t w (c ∷ rest) = (length (stealer (change_event t w c)) ≤ n)
    × IsDisabledAfter m (cond (is_enabled (after_change t w c)) (n - length (stealer (change_event t w c))) m) t (after_change t w c) rest

-- while x waits, nobody else comes to where it enables stealing, and whoever enables it is there no more
pub record OnlyEnablersEnable (t : Terms) : Type 0 where
  pub nobody_else : (w : World) (ok : Lawful t w) (x : ℕ) (c : Change) → MayChange t.rules.form c → Waits ok.shown x → change_event t.rules w c ≢ Leave x
      → (p : ℕ) → is_enabling (after_change t.rules w c) p ≡ true → is_enabling w p ≡ true
  pub once : (w : World) (ok : Lawful t w) (x : ℕ) (c : Change) → MayChange t.rules.form c → Waits ok.shown x → change_event t.rules w c ≢ Leave x
      → enabled_between w (after_change t.rules w c) + enablers (after_change t.rules w c) ≤ enablers w

-- so stealing is enabled again at most once for each pass that is about to enable it
abbrev pub EnabledBound : Terms → Type 0
EnabledBound t = (w : World) (ok : Lawful t w) (x : ℕ) (changes : List Change) → EachMayChange t.rules.form changes → Waits ok.shown x
    → times_enabled t.rules x w changes ≤ enablers w

-- and where it is disabled again after at most m steals, at most m come past x for each such pass, and m where it is enabled now
abbrev pub StolenBound : Terms → Type 0
StolenBound t = (m : ℕ) (w : World) (ok : Lawful t w) (x : ℕ) (changes : List Change) → EachMayChange t.rules.form changes → Waits ok.shown x
    → IsDisabledAfter m m t.rules w changes
    → length (stolen_before x (shown_events t.rules w changes)) ≤ m * enablers w + cond (is_enabled w) m 0

-- at most m of them write
abbrev pub WriterStolenBound : Terms → Type 0
WriterStolenBound t = (m : ℕ) (w : World) (ok : Lawful t w) (x : ℕ) (changes : List Change) → EachMayChange t.rules.form changes → Waits ok.shown x
    → IsDisabledAfter m m t.rules w changes → writer_count (stolen_before x (shown_events t.rules w changes)) ≤ m

-- so without readers at most m come past x at all
abbrev pub ExclusiveStolenBound : Terms → Type 0
ExclusiveStolenBound t = (m : ℕ) (w : World) (ok : Lawful t w) (x : ℕ) (changes : List Change) → shares t.rules.form ≡ false
    → EachMayChange t.rules.form changes → Waits ok.shown x → IsDisabledAfter m m t.rules w changes
    → length (stolen_before x (shown_events t.rules w changes)) ≤ m

-- and where stealing is disabled and nobody is about to enable it, nobody comes past x
abbrev pub NoneStolen : Terms → Type 0
NoneStolen t = (w : World) (ok : Lawful t w) (x : ℕ) (changes : List Change) → EachMayChange t.rules.form changes → Waits ok.shown x
    → enablers w ≡ 0 → is_enabled w ≡ false → stolen_before x (shown_events t.rules w changes) ≡ []
