use Rattle.std.proofs.Common.{◌≡◌, [], suc, ◌+◌, ◌-◌, ◌++◌, take, Some, None, refl, sym, ap, ◌∙◌, arith, append_assoc}
use Rattle.std.proofs.lemmas.List.{append-nil}
use Rattle.sim_line.specs.Events.{turn_events, events_of}
use Rattle.sim_model.specs.Runs.{state_of, next_turn, turn_moves}
use Rattle.sim_line.proofs.EventRuns.{no-events, turned-events}
use Rattle.sim_model.proofs.Running.{moved-passes, moved-rules}
use Rattle.sim_line.proofs.events.run_events.Goals as goal

pub loop-turn-init : goal.loop-turn-init
loop-turn-init g c = record {
  found = ap (λ n. c.args.found.now.items ++ events_of c.args.setup.now (g.A.Adviser.answers c.args.adviser.now) n (state_of c.args.lock.now c.args.bench.now [])) (let e : c.args.turns - 0 ≡ c.args.turns = omega arith in e);
  rules = c.requires.rules;
  passes = c.requires.passes;
}

pub loop-turn-preserved : goal.loop-turn-preserved
loop-turn-preserved g c =
    let s = c.args.setup.now in
    let answers = g.A.Adviser.answers c.args.adviser.now in
    let n = c.args.turns - (c.loop-turn.turn + 1) in
    let e = c.in-Some.entry in
    let moves = turn_moves s answers c.loop-turn.lock.world c.loop-turn.bench e.pass e.turn in
    let left : c.args.turns - c.loop-turn.turn ≡ suc n = omega arith in
    let next : next_turn s c.loop-turn.bench ≡ Some c.in-Some.entry = sym c.next_entry.ensures.next ∙ c.in-Some.is in
    let old = c.loop-turn.found.items in
    let these = turn_events s c.loop-turn.lock.world c.loop-turn.bench e.pass e.turn in
    let others = events_of s answers n (state_of c.take_turn.new.lock c.take_turn.new.bench []) in
    record {
      found = ap (λ l. l ++ others) (c.in_ok-note_turn.ensures refl) ∙ append_assoc old these others
          ∙ ap (λ l. old ++ l) (turned-events s answers n (c.args.turns - c.loop-turn.turn) c.loop-turn.lock c.take_turn.new.lock c.loop-turn.bench c.take_turn.new.bench e
          left c.loop-turn.invariant.rules next c.take_turn.ensures.lock c.take_turn.ensures.bench)
          ∙ c.loop-turn.invariant.found;
      rules = moved-rules c.loop-turn.lock c.take_turn.new.lock moves s.rules c.take_turn.ensures.lock c.loop-turn.invariant.rules;
      passes = moved-passes c.loop-turn.lock c.take_turn.new.lock moves s.passes c.take_turn.ensures.lock c.loop-turn.invariant.passes;
    }

pub returns-in_default : goal.returns-in_default
returns-in_default g c =
    let s = c.args.setup.now in
    let answers = g.A.Adviser.answers c.args.adviser.now in
    let over : next_turn s c.loop-turn.bench ≡ None = sym c.next_entry.ensures.next ∙ c.in_default.is in
    let st = state_of c.loop-turn.lock c.loop-turn.bench [] in
    let none = no-events s answers (c.args.turns - c.loop-turn.turn) st over in
    record { first = λ _. ap (take c.args.most) (sym (append-nil c.loop-turn.found.items) ∙ ap (λ l. c.loop-turn.found.items ++ l) (sym none) ∙ c.loop-turn.invariant.found) }

pub returns : goal.returns
returns g c =
    let answers = g.A.Adviser.answers c.args.adviser.now in
    let over : c.args.turns - c.loop-turn.turn ≡ 0 = omega arith in
    let st = state_of c.loop-turn.lock c.loop-turn.bench [] in
    record {
      first = λ _. ap (take c.args.most) (sym (append-nil c.loop-turn.found.items)
          ∙ ap (λ n. c.loop-turn.found.items ++ events_of c.args.setup.now answers n st) (sym over) ∙ c.loop-turn.invariant.found);
    }
