-- How many may leave before a queued pass: its potential bounds them, over every run from a lawful world.
use Rattle.std.proofs.Common.{◌≡◌, ◌≢◌, ℕ, suc, ◌+◌, ◌*◌, ◌<◌, ◌≤◌, ◌⊎◌, List, [], ◌∷◌, ◌++◌, Bool, true, false, cond, refl, sym, ap, ◌∙◌, inl, inr, subst, length, length-set, length-append, arith}
use Rattle.std.specs.Prelude.{map}
use Rattle.std.proofs.lemmas.Bool.Decides.{nat_tests}
use Rattle.shfl_line.specs.declared.events.LineEvent.{LineEvent}
use Rattle.shfl_line.specs.declared.events.LineEvent.TheVariants.{Join, Leave}
use Rattle.shfl_line.specs.declared.words.Attr.{Attr}
use Rattle.shfl_line.specs.Words.{attr_word}
use Rattle.shfl_line.specs.Passes.{times}
use Rattle.shfl_line.specs.Line.{Line, mark_of, IsWellFormed}
use Rattle.shfl_line.specs.Steps.{Admits, after}
use Rattle.shfl_line.proofs.Chain
use Rattle.shfl_core.specs.declared.phase.Phase.TheVariants.{Idle}
use Rattle.shfl_core.specs.Words.{look, site}
use Rattle.shfl_core.specs.Plan.{attempt_plan}
use Rattle.shfl_core.specs.Take.{to, attempted}
use Rattle.shfl_core.specs.Worlds.{World, known, placed_at, tried, opening, idle_from}
use Rattle.shfl_core.specs.View.{view}
use Rattle.shfl_core.specs.ShownLine.{shown_line}
use Rattle.shfl_core.specs.Lawful.{Terms, count, Lawful, Advances}
use Rattle.shfl_laws.specs.Moves.{terms, with_one_more}
use Rattle.shfl_laws.proofs.laws.MoveLaws.{moved-long}
use Rattle.shfl_laws.proofs.laws.Opens.{opening-law}
use Rattle.shfl_laws.proofs.shown.ShownLine.{shown-line-law}
use Rattle.shfl_laws.proofs.shown.WellFormed.{agrees-well-formed}
use Rattle.shfl_laws.specs.Changes.{Change, Moves, Tries, Disables, Fills, Replaces, is_idle_there, has_seat, after_change, after_changes, change_event, shown_events, EachMayChange}
use Rattle.shfl_bound.specs.Departures.{Waits, ahead, leaver, left_before}
use Rattle.shfl_bound.specs.Overtaking.{OvertakingNumber, WaiterBound, JoinerBound, OpenedBound}
use Rattle.shfl_bound.proofs.Ahead.{ahead-end}
use Rattle.shfl_bound.proofs.Potential.{potential, potential-bound}
use Rattle.shfl_bound.proofs.LineSteps
use Rattle.shfl_bound.proofs.Staying.{stays, left-more, left-none, own-or}
use Rattle.shfl_bound.proofs.MovedUp.{moved, moved-up}
use Rattle.shfl_bound.proofs.Changing.{goes}
use Rattle.shfl_bound.proofs.ChangeLaws.{change-law}

pub well-formed : (t : Terms) (w : World) (ok : Lawful t w) → IsWellFormed t.rules.limit ok.shown
well-formed t w ok = agrees-well-formed t (view w) ok.shown ok.giver ok.of_passes ok.agrees

-- the number
abbrev pub number : (t : Terms) (w : World) → Lawful t w → ℕ → ℕ
number t w ok x = potential t.rules.limit (mark_of ok.shown) ok.shown.line (moved t w ok) x

pub bounded : (t : Terms) (w : World) (ok : Lawful t w) (x : ℕ) → number t w ok x ≤ t.rules.limit * length (ahead x ok.shown.line)
bounded t w ok x = potential-bound t.rules.limit (mark_of ok.shown) ok.shown.line (moved t w ok) x ok.limit.0 (well-formed t w ok).prefix (λ e. (moved-up t w ok).unmarked x e)

pub falls : (t : Terms) (w : World) (ok : Lawful t w) (x : ℕ) (c : Change) (a : Advances t w ok (change_event t.rules w c) (after_change t.rules w c)) → Waits ok.shown x → change_event t.rules w c ≢ Leave x
    → length (leaver (change_event t.rules w c)) + number t (after_change t.rules w c) a.lawful x ≤ number t w ok x
falls t w ok x c a waits other = let e : LineEvent = change_event t.rules w c in
    subst (λ (s : Line). length (leaver e) + potential t.rules.limit (mark_of s) s.line (moved t (after_change t.rules w c) a.lawful) x ≤ number t w ok x) (sym a.shown)
    (LineSteps.step t.rules.limit (count t) ok.shown (moved t w ok) x ok.limit.0 ok.of_passes (well-formed t w ok) (moved-up t w ok) waits e
    (moved t (after_change t.rules w c) a.lawful) a.admitted (goes t w ok c a) other)

pub overtaking-number : (t : Terms) → OvertakingNumber t
overtaking-number t = record { number = number t; bounded = λ w ok x _. bounded t w ok x; falls = falls t }

-- the pass waits on
pub waits-on : (t : Terms) (w : World) (ok : Lawful t w) (x : ℕ) (e : LineEvent) (w' : World) (a : Advances t w ok e w') → Waits ok.shown x → e ≢ Leave x → Waits a.lawful.shown x
waits-on t w ok x e w' a waits other = subst (λ (s : Line). Waits s x) (sym a.shown) (stays t.rules.limit ok.shown x e a.admitted other waits)

counts : (t : Terms) (x : ℕ) (cs : List Change) (w : World) (ok : Lawful t w) → EachMayChange t.rules.form cs → Waits ok.shown x → length (left_before x (shown_events t.rules w cs)) ≤ number t w ok x
counts t x [] w ok may waits = omega arith
counts t x (c ∷ rest) w ok may waits = let a = change-law t w c ok may.0 in by a (own-or x (change_event t.rules w c)) (counts t x rest (after_change t.rules w c) a.lawful may.1)
  where
    by : (a : Advances t w ok (change_event t.rules w c) (after_change t.rules w c)) → (change_event t.rules w c ≡ Leave x) ⊎ (change_event t.rules w c ≢ Leave x)
        → (Waits a.lawful.shown x → length (left_before x (shown_events t.rules (after_change t.rules w c) rest)) ≤ number t (after_change t.rules w c) a.lawful x)
        → length (left_before x (change_event t.rules w c ∷ shown_events t.rules (after_change t.rules w c) rest)) ≤ number t w ok x
    by a (inl own) ih = let z : left_before x (change_event t.rules w c ∷ shown_events t.rules (after_change t.rules w c) rest) ≡ [] =
        ap (λ (e : LineEvent). left_before x (e ∷ shown_events t.rules (after_change t.rules w c) rest)) own ∙ left-none x (shown_events t.rules (after_change t.rules w c) rest) in
        let l = ap length z in omega arith
    by a (inr other) ih = let u = ih (waits-on t w ok x (change_event t.rules w c) (after_change t.rules w c) a waits other) in let v = falls t w ok x c a waits other in
        let m = ap length (left-more x (change_event t.rules w c) (shown_events t.rules (after_change t.rules w c) rest) other) in
        let l = length-append (leaver (change_event t.rules w c)) (left_before x (shown_events t.rules (after_change t.rules w c) rest)) in omega arith

pub waiter-bound : (t : Terms) → WaiterBound t
waiter-bound t w ok x cs may waits = let a = counts t x cs w ok may waits in let b = bounded t w ok x in omega arith

pub joiner-bound : (t : Terms) → JoinerBound t
joiner-bound t w ok x c rest may each e = let a = change-law t w c ok may in by a (subst (Admits t.rules.limit ok.shown) e a.admitted).0.0 (a.shown ∙ ap (after ok.shown) e)
  where
    by : (a : Advances t w ok (change_event t.rules w c) (after_change t.rules w c)) → times x ok.shown.line ≡ 0 → a.lawful.shown ≡ after ok.shown (Join x)
        → length (left_before x (shown_events t.rules (after_change t.rules w c) rest)) ≤ t.rules.limit * length ok.shown.line
    by a away shown = let line : a.lawful.shown.line ≡ ok.shown.line ++ x ∷ [] = ap (λ (s : Line). s.line) shown in
        let inside : 0 < times x a.lawful.shown.line = subst (λ l. 0 < times x l) (sym line) (let b = Chain.times-push x x ok.shown.line in grind (arith, nat_tests)) in
        let bound = waiter-bound t (after_change t.rules w c) a.lawful x rest each (inl inside) in
        let before : ahead x a.lawful.shown.line ≡ ok.shown.line = ap (ahead x) line ∙ ahead-end x ok.shown.line away in
        subst (λ (l : List ℕ). length (left_before x (shown_events t.rules (after_change t.rules w c) rest)) ≤ t.rules.limit * length l) before bound

-- any history keeps a world lawful, with all its seats
pub history-lawful : (t : Terms) (cs : List Change) (w : World) → Lawful t w → EachMayChange t.rules.form cs → Lawful t (after_changes t.rules w cs)
history-lawful t [] w ok may = ok
history-lawful t (c ∷ rest) w ok may = history-lawful t rest (after_change t.rules w c) (change-law t w c ok may.0).lawful may.1

-- in a lock with all its seats filled they stay filled
changed-full : (t : Terms) (w : World) → Lawful t w → (c : Change) → length w.passes ≡ count t → length (after_change t.rules w c).passes ≡ count t
changed-full t w ok (Moves m) full = moved-long t.rules w m ∙ full
changed-full t w ok (Tries p mode) full = by (is_idle_there w p)
  where
    by : (b : Bool) → length (cond b (tried w p (known w.passes p) mode) w).passes ≡ count t
    by true = length-set w.passes p (attempted mode (known w.passes p).reg (look w.words (site (attempt_plan mode)))) ∙ full
    by false = full
changed-full t w ok (Disables z) full = full
changed-full t w ok Fills full = by (has_seat w) (let a = ok.room in grind (arith, nat_tests))
  where
    by : (b : Bool) → b ≡ false → length (cond b (with_one_more w) w).passes ≡ count t
    by true e = absurd (cc)
    by false e = full
changed-full t w ok (Replaces p r) full = by (is_idle_there w p)
  where
    by : (b : Bool) → length (cond b (placed_at w p (to Idle (record r { me = p }))) w).passes ≡ count t
    by true = length-set w.passes p (to Idle (record r { me = p })) ∙ full
    by false = full

history-full : (t : Terms) (cs : List Change) (w : World) (ok : Lawful t w) → EachMayChange t.rules.form cs → length w.passes ≡ count t → length (after_changes t.rules w cs).passes ≡ count t
history-full t [] w ok may full = full
history-full t (c ∷ rest) w ok may full = history-full t rest (after_change t.rules w c) (change-law t w c ok may.0).lawful may.1 (changed-full t w ok c full)

opening-long : (p : ℕ) (attrs : List Attr) → length (idle_from p attrs) ≡ length (map attr_word attrs)
opening-long p [] = refl
opening-long p (a ∷ rest) = let b = opening-long (suc p) rest in omega arith

pub opened-bound : OpenedBound
opened-bound rules attrs history x c rest may each one after e = let t : Terms = terms rules attrs in let w : World = after_changes rules (opening attrs) history in
    let ok : Lawful (terms rules attrs) (after_changes rules (opening attrs) history) = history-lawful (terms rules attrs) history (opening attrs) (opening-law rules attrs may).lawful each in
    let shows : ok.shown ≡ shown_line (after_changes rules (opening attrs) history) = shown-line-law (terms rules attrs) (after_changes rules (opening attrs) history) ok (history-full (terms rules attrs) history (opening attrs) (opening-law rules attrs may).lawful each (opening-long 0 attrs)) in
    subst (λ (s : Line). length (left_before x (shown_events rules (after_change rules (after_changes rules (opening attrs) history) c) rest)) ≤ rules.limit * length s.line) shows
    (joiner-bound (terms rules attrs) (after_changes rules (opening attrs) history) ok x c rest one after e)
