-- While a pass is in the queue: the batch limit bounds who passes it by leaving.
use Rattle.std.proofs.Common.{◌≡◌, ℕ, ◌*◌, ◌≤◌, List, [], ◌∷◌, length, refl, sym, ap, ◌∙◌, subst, length-append, arith}
use Rattle.std.specs.Prelude.{map}
use Rattle.std.proofs.lemmas.List.{length-map}
use Rattle.shfl_line.specs.Words.{attr_word}
use Rattle.shfl_line.specs.declared.events.LineEvent.{LineEvent}
use Rattle.shfl_line.specs.Line.{Line}
use Rattle.shfl_core.specs.declared.phase.Rules.{Rules}
use Rattle.shfl_core.specs.ShownLine.{shown_line}
use Rattle.shfl_core.specs.Worlds.{World, Move, after_move, run, opening}
use Rattle.shfl_core.specs.Lawful.{Terms, Lawful}
use Rattle.shfl_laws.specs.Moves.{terms}
use Rattle.shfl_laws.proofs.laws.Opens.{opening-law}
use Rattle.shfl_laws.proofs.shown.ShownLine.{shown-line-law}
use Rattle.shfl_laws.specs.Changes.{Change, Moves, after_changes, shown_events, EachMayChange}
use Rattle.shfl_bound.specs.Departures.{Waits, ahead, leaver, left_before}
use Rattle.shfl_bound.proofs.Staying.{left-more}
use Rattle.shfl_bound.proofs.Bound.{waiter-bound, history-lawful}
use Rattle.sim_setup.specs.declared.setup.Setup.{Setup}
use Rattle.sim_model.specs.Runs.{Answers, State, ran, moves_of, opening_state}
use Rattle.sim_model.proofs.Allowed.{each-allowed}
use Rattle.sim_model.proofs.Scheduled.{runs-are-schedules}
use Rattle.sim_model.proofs.Turned.{opening-kept}
use Rattle.sim_bound.specs.Overtaken.{departures, StaysIn, QueuedBound}
use Rattle.sim_bound.proofs.Passing.{passed-bound, kept-ran}

-- the lock's form allows each change of a run
may-change : (s : Setup) (answers : Answers) (n : ℕ) (st : State) → EachMayChange s.rules.form (map Moves (moves_of s answers n st))
may-change s answers = each-allowed s answers (λ ms. EachMayChange s.rules.form (map Moves ms)) tt
    (λ p mode ms may rest. (may, rest)) (λ p ms rest. (tt, rest)) (λ p choice ms rest. (tt, rest))

run-changes : (t : Rules) (w : World) (ms : List Move) → after_changes t w (map Moves ms) ≡ run t w ms
run-changes t w [] = refl
run-changes t w (m ∷ ms) = run-changes t (after_move t w m) ms

-- where x doesn't leave, all departures are before its own
all-before : (x : ℕ) (es : List LineEvent) → StaysIn x es → departures es ≡ length (left_before x es)
all-before x [] stays = refl
all-before x (e ∷ es) stays = let ih = all-before x es stays.1 in let a = ap length (left-more x e es stays.0) in let b = length-append (leaver e) (left_before x es) in omega arith

-- a lawful world with all its seats filled
few-leave : (t : Terms) (w : World) (ok : Lawful t w) → ok.shown ≡ shown_line w → (x : ℕ) (cs : List Change) → EachMayChange t.rules.form cs → Waits (shown_line w) x
    → StaysIn x (shown_events t.rules w cs) → departures (shown_events t.rules w cs) ≤ t.rules.limit * length (ahead x (shown_line w).line)
few-leave t w ok shows x cs may waits stays = let a = all-before x (shown_events t.rules w cs) stays in
    let b = waiter-bound t w ok x cs may (subst (λ (s : Line). Waits s x) (sym shows) waits) in
    let c : length (ahead x ok.shown.line) ≡ length (ahead x (shown_line w).line) = ap (λ (s : Line). length (ahead x s.line)) shows in
    let d : t.rules.limit * length (ahead x ok.shown.line) ≡ t.rules.limit * length (ahead x (shown_line w).line) = ap (λ z. t.rules.limit * z) c in omega arith

pub queued-bound : QueuedBound
queued-bound s answers n k attrs x up may waits stays =
    let t : Terms = terms s.rules attrs in
    let st : State = ran s answers n (opening_state s attrs) in
    let ms = moves_of s answers n (opening_state s attrs) in
    let e : after_changes s.rules (opening attrs) (map Moves ms) ≡ st.world = run-changes s.rules (opening attrs) ms ∙ sym (runs-are-schedules s answers n (opening_state s attrs)) in
    let ok : Lawful (terms s.rules attrs) st.world = subst (Lawful (terms s.rules attrs)) e (history-lawful (terms s.rules attrs) (map Moves ms) (opening attrs) (opening-law s.rules attrs may).lawful
    (may-change s answers n (opening_state s attrs))) in
    let kept = kept-ran s answers up.until n 0 (opening_state s attrs) (opening-kept s attrs up) in
    let shows : ok.shown ≡ shown_line st.world = shown-line-law (terms s.rules attrs) st.world ok (kept.1.passes ∙ (sym up.passes ∙ sym (length-map attrs attr_word))) in
    let few = few-leave (terms s.rules attrs) st.world ok shows x (map Moves (moves_of s answers k st)) (may-change s answers k st) waits stays in
    let all = passed-bound s answers n k attrs x up in omega arith
