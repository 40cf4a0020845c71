-- The events of a run, turn by turn.
use Rattle.std.proofs.Common.{◌≡◌, ℕ, zero, suc, true, false, cond, List, [], ◌∷◌, ◌++◌, map, take, refl, sym, ap, ◌∙◌, Option, Some, None}
use Rattle.std.proofs.lemmas.List.{map-append}
use Rattle.shfl_line.specs.declared.words.Attr.{Attr}
use Rattle.shfl_core.specs.Runner.{Lock, opened}
use Rattle.shfl_core.specs.Worlds.{World, run, opening}
use Rattle.sim_model.specs.declared.bench.Bench.{Bench}
use Rattle.sim_line.specs.declared.events.Event.{Event}
use Rattle.sim_line.specs.declared.events.Event.TheVariants.{Step as StepEvent}
use Rattle.sim_setup.specs.declared.setup.Setup.{Setup}
use Rattle.sim_model.specs.declared.turns.Entry.{Entry}
use Rattle.sim_model.specs.declared.turns.Turn.{Turn}
use Rattle.sim_model.specs.declared.turns.Turn.TheVariants.{Call, Step, Gain, Free}
use Rattle.sim_line.specs.Events.{call_event, event_of, turn_events, events_of, first_events}
use Rattle.sim_model.specs.Openings.{opening_bench}
use Rattle.sim_model.specs.Runs.{Answers, State, state_of, after_moves, call_move, and_step, turn_moves, turn_bench, after_turn, next_turn, turning, moves_of, opening_state}
use Rattle.sim_model.specs.Tries.{mode_wanted, in_vain}

-- a turn's events are those of its moves
turn-events : (s : Setup) (answers : Answers) (w : World) (b : Bench) (p : ℕ) (turn : Turn) → map event_of (turn_moves s answers w b p turn) ≡ turn_events s w b p turn
turn-events s answers w b p (Call tried) = elim (in_vain s w b p tried)
    as (λ v. map event_of (cond v [] (and_step s answers w p (call_move s b p))) ≡ cond v [] (call_event (mode_wanted s b p) p ∷ StepEvent p ∷ [])) [
      | true ↦ refl
      | false ↦ refl
    ]
turn-events s answers w b p Step = refl
turn-events s answers w b p Free = refl
turn-events s answers w b p (Gain stolen) = refl

module _ (s : Setup) (answers : Answers) where
  -- the waits so far have no part in what comes
  whatever : (n : ℕ) (w : World) (b : Bench) (ws vs : List ℕ) → moves_of s answers n (record { world = w; bench = b; waits = ws }) ≡ moves_of s answers n (record { world = w; bench = b; waits = vs })
  whatever zero w b ws vs = refl
  whatever (suc n) w b ws vs = by (λ e. whatever n (after_turn s answers (record { world = w; bench = b; waits = ws }) e).world (after_turn s answers (record { world = w; bench = b; waits = ws }) e).bench
      (after_turn s answers (record { world = w; bench = b; waits = ws }) e).waits (after_turn s answers (record { world = w; bench = b; waits = vs }) e).waits) (next_turn s b) where
        by : ((e : Entry) → moves_of s answers n (after_turn s answers (record { world = w; bench = b; waits = ws }) e) ≡ moves_of s answers n (after_turn s answers (record { world = w; bench = b; waits = vs }) e)) → (o : Option Entry)
            → turning o [] (λ e. turn_moves s answers w b e.pass e.turn ++ moves_of s answers n (after_turn s answers (record { world = w; bench = b; waits = ws }) e))
            ≡ turning o [] (λ e. turn_moves s answers w b e.pass e.turn ++ moves_of s answers n (after_turn s answers (record { world = w; bench = b; waits = vs }) e))
        by ih None = refl
        by ih (Some e) = ap (λ ms. turn_moves s answers w b e.pass e.turn ++ ms) (ih e)

  pub no-events : (n : ℕ) (st : State) → next_turn s st.bench ≡ None → events_of s answers n st ≡ []
  no-events zero st e = refl
  no-events (suc n) st e = ap (λ o. map event_of (turning o [] (λ x. turn_moves s answers st.world st.bench x.pass x.turn ++ moves_of s answers n (after_turn s answers st x)))) e

  -- one turn less to go
  pub turned-events : (n m : ℕ) (a b : Lock) (x y : Bench) (e : Entry)
      → m ≡ suc n → a.rules ≡ s.rules → next_turn s x ≡ Some e
      → b ≡ after_moves a (turn_moves s answers a.world x e.pass e.turn) → y ≡ turn_bench s answers a.world x e.pass e.at e.turn
      → turn_events s a.world x e.pass e.turn ++ events_of s answers n (state_of b y []) ≡ events_of s answers m (state_of a x [])
  turned-events n m a b x y e is rules next lock bench =
      let st : State = state_of a x [] in
      let world : b.world ≡ (after_turn s answers st e).world = ap (λ (l : Lock). l.world) lock ∙ ap (λ t. run t a.world (turn_moves s answers a.world x e.pass e.turn)) rules in
      let same : events_of s answers n (state_of b y []) ≡ events_of s answers n (after_turn s answers st e) =
      ap (λ w. events_of s answers n (record { world = w; bench = y; waits = [] })) world
      ∙ ap (λ z. events_of s answers n (record { world = (after_turn s answers st e).world; bench = z; waits = [] })) bench
      ∙ ap (map event_of) (whatever n (after_turn s answers st e).world (after_turn s answers st e).bench [] (after_turn s answers st e).waits) in
      let stepped : events_of s answers (suc n) st ≡ map event_of (turn_moves s answers a.world x e.pass e.turn ++ moves_of s answers n (after_turn s answers st e)) =
      ap (λ o. map event_of (turning o [] (λ z. turn_moves s answers a.world x z.pass z.turn ++ moves_of s answers n (after_turn s answers st z)))) next in
      ap (λ l. l ++ events_of s answers n (state_of b y [])) (sym (turn-events s answers a.world x e.pass e.turn))
      ∙ ap (λ l. map event_of (turn_moves s answers a.world x e.pass e.turn) ++ l) same
      ∙ sym (map-append event_of (turn_moves s answers a.world x e.pass e.turn) (moves_of s answers n (after_turn s answers st e)))
      ∙ sym stepped ∙ ap (λ k. events_of s answers k st) (sym is)

-- from the opening on
pub opened-events : (s : Setup) (answers : Answers) (n : ℕ) (attrs : List Attr) (lock : Lock) (bench : Bench) (none all kept : List Event) (most : ℕ)
    → lock ≡ opened s.rules attrs → bench ≡ opening_bench s → none ≡ [] → kept ≡ take most all
    → take most all ≡ take most (none ++ events_of s answers n (state_of lock bench []))
    → kept ≡ first_events s answers n attrs most
unfolding first_events
opened-events s answers n attrs lock bench none all kept most is b e cut first =
    let same : state_of lock bench [] ≡ opening_state s attrs =
    ap (λ (x : Lock). record { world = x.world; bench = bench; waits = [] }) is
    ∙ ap (λ z. record { world = opening attrs; bench = z; waits = [] }) b in
    cut ∙ first ∙ ap (λ (l : List Event). take most (l ++ events_of s answers n (state_of lock bench []))) e
    ∙ ap (λ (st : State). take most (events_of s answers n st)) same
