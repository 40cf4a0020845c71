-- A run, turn by turn.
use Rattle.std.proofs.Common.{◌≡◌, ℕ, zero, suc, Bool, true, false, cond, List, [], ◌∷◌, ◌++◌, length, length-set, refl, sym, ap, ◌∙◌, Option, Some, None}
use Rattle.shfl_core.specs.declared.phase.Rules.{Rules}
use Rattle.shfl_line.specs.declared.words.Attr.{Attr}
use Rattle.shfl_core.specs.Runner.{Lock, opened}
use Rattle.shfl_core.specs.Worlds.{World, Move, Acquire, Release, Step, admitted, made, after_move, run, opening}
use Rattle.shfl_core.proofs.Opening.{idle-from-long}
use Rattle.sim_setup.specs.declared.setup.Setup.{Setup}
use Rattle.sim_model.specs.declared.bench.Bench.{Bench}
use Rattle.sim_model.specs.declared.turns.Entry.{Entry}
use Rattle.sim_model.specs.Openings.{opening_bench}
use Rattle.sim_model.specs.Runs.{Answers, State, state_of, after_moves, turn_moves, turn_bench, turn_wait, listed, after_turn, next_turn, turning, ran, opening_state}

made-passes : (t : Rules) (w : World) (m : Move) → length (made t w m).passes ≡ length w.passes
made-passes t w (Acquire p mode) = length-set w.passes p _
made-passes t w (Release p) = length-set w.passes p _
made-passes t w (Step p choice) = length-set w.passes p _

chosen-passes : (b : Bool) (v w : World) → length v.passes ≡ length w.passes → length (cond b v w).passes ≡ length w.passes
chosen-passes true v w e = e
chosen-passes false v w e = refl

-- moves leave the passes as many
run-passes : (t : Rules) (w : World) (ms : List Move) → length (run t w ms).passes ≡ length w.passes
run-passes t w [] = refl
run-passes t w (m ∷ ms) = run-passes t (after_move t w m) ms ∙ chosen-passes (admitted w m) (made t w m) w (made-passes t w m)

pub moved-passes : (a b : Lock) (ms : List Move) (n : ℕ) → b ≡ after_moves a ms → length a.world.passes ≡ n → length b.world.passes ≡ n
moved-passes a b ms n e long = ap (λ (x : Lock). length x.world.passes) e ∙ run-passes a.rules a.world ms ∙ long

pub moved-rules : (a b : Lock) (ms : List Move) (t : Rules) → b ≡ after_moves a ms → a.rules ≡ t → b.rules ≡ t
moved-rules a b ms t e is = ap (λ (x : Lock). x.rules) e ∙ is

-- a run that has ended goes on to nothing
pub ended-run : (s : Setup) (answers : Answers) (n : ℕ) (st : State) → next_turn s st.bench ≡ None → ran s answers n st ≡ st
ended-run s answers zero st e = refl
ended-run s answers (suc n) st e = ap (λ o. turning o st (λ x. ran s answers n (after_turn s answers st x))) e

-- one turn less to go
pub turned-run : (s : Setup) (answers : Answers) (n m : ℕ) (a b : Lock) (x y : Bench) (waits waits' : List ℕ) (wait : Option ℕ) (e : Entry)
    → m ≡ suc n → a.rules ≡ s.rules → next_turn s x ≡ Some e
    → b ≡ after_moves a (turn_moves s answers a.world x e.pass e.turn) → y ≡ turn_bench s answers a.world x e.pass e.at e.turn
    → wait ≡ turn_wait x e.pass e.at e.turn → waits' ≡ waits ++ listed wait
    → ran s answers n (state_of b y waits') ≡ ran s answers m (state_of a x waits)
turned-run s answers n m a b x y waits waits' wait e is rules next lock bench waited items =
    let st : State = state_of a x waits in
    let world : b.world ≡ (after_turn s answers st e).world = ap (λ (l : Lock). l.world) lock ∙ ap (λ t. run t a.world (turn_moves s answers a.world x e.pass e.turn)) rules in
    let list : waits' ≡ (after_turn s answers st e).waits = items ∙ ap (λ o. waits ++ listed o) waited in
    let same : state_of b y waits' ≡ after_turn s answers st e =
    ap (λ w. record { world = w; bench = y; waits = waits' }) world
    ∙ ap (λ z. record { world = (after_turn s answers st e).world; bench = z; waits = waits' }) bench
    ∙ ap (λ l. record { world = (after_turn s answers st e).world; bench = (after_turn s answers st e).bench; waits = l }) list in
    let stepped : ran s answers (suc n) st ≡ ran s answers n (after_turn s answers st e) = ap (λ o. turning o st (λ z. ran s answers n (after_turn s answers st z))) next in
    ap (ran s answers n) same ∙ sym stepped ∙ ap (λ k. ran s answers k st) (sym is)

pub opened-passes : (lock : Lock) (t : Rules) (attrs : List Attr) (n : ℕ) → lock ≡ opened t attrs → n ≡ length attrs → length lock.world.passes ≡ n
opened-passes lock t attrs n is long = ap (λ (x : Lock). length x.world.passes) is ∙ idle-from-long 0 attrs ∙ sym long

-- a run from the opening on
pub opened-run : (s : Setup) (answers : Answers) (n : ℕ) (attrs : List Attr) (lock : Lock) (bench : Bench) (waits : List ℕ) (end : State)
    → lock ≡ opened s.rules attrs → bench ≡ opening_bench s → waits ≡ [] → end ≡ ran s answers n (state_of lock bench waits)
    → end ≡ ran s answers n (opening_state s attrs)
opened-run s answers n attrs lock bench waits end is b none e =
    let same : state_of lock bench waits ≡ opening_state s attrs =
    ap (λ (x : Lock). record { world = x.world; bench = bench; waits = waits }) is
    ∙ ap (λ z. record { world = opening attrs; bench = z; waits = waits }) b
    ∙ ap (λ l. record { world = opening attrs; bench = opening_bench s; waits = l }) none in
    e ∙ ap (ran s answers n) same
