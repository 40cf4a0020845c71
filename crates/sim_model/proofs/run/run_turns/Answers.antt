use Rattle.std.proofs.Common.{◌≡◌, suc, ◌+◌, ◌-◌, Some, None, refl, sym, ap, ◌∙◌, arith}
use Rattle.sim_model.specs.Runs.{state_of, ran, next_turn, turn_moves}
use Rattle.sim_model.proofs.Running.{moved-passes, moved-rules, ended-run, turned-run}
use Rattle.sim_model.proofs.run.run_turns.Goals as goal

pub loop-turn-init : goal.loop-turn-init
loop-turn-init g c = record {
  run = ap (λ n. ran c.args.setup.now (g.A.Adviser.answers c.args.adviser.now) n (state_of c.args.lock.now c.args.bench.now c.args.waits.now.items)) (let e : c.args.most - 0 ≡ c.args.most = omega arith in e);
  rules = c.requires.rules;
  passes = c.requires.passes;
}

pub loop-turn-preserved : goal.loop-turn-preserved
loop-turn-preserved g c =
    let s = c.args.setup.now in
    let n = c.args.most - (c.loop-turn.turn + 1) in
    let e = c.in-Some.entry in
    let moves = turn_moves s (g.A.Adviser.answers c.args.adviser.now) c.loop-turn.lock.world c.loop-turn.bench e.pass e.turn in
    let left : c.args.most - c.loop-turn.turn ≡ suc n = omega arith in
    let next : next_turn s c.loop-turn.bench ≡ Some c.in-Some.entry = sym c.next_entry.ensures.next ∙ c.in-Some.is in
    record {
      run = turned-run s (g.A.Adviser.answers c.args.adviser.now) n _ c.loop-turn.lock c.take_turn-wait.new.lock c.loop-turn.bench c.take_turn-wait.new.bench
          c.loop-turn.waits.items c.note.new.waits.items c.take_turn-wait.result c.in-Some.entry left c.loop-turn.invariant.rules next
          c.take_turn-wait.ensures.lock c.take_turn-wait.ensures.bench c.take_turn-wait.ensures.wait (c.in_ok-note.ensures refl)
          ∙ c.loop-turn.invariant.run;
      rules = moved-rules c.loop-turn.lock c.take_turn-wait.new.lock moves s.rules c.take_turn-wait.ensures.lock c.loop-turn.invariant.rules;
      passes = moved-passes c.loop-turn.lock c.take_turn-wait.new.lock moves s.passes c.take_turn-wait.ensures.lock c.loop-turn.invariant.passes;
    }

pub returns-in_default : goal.returns-in_default
returns-in_default g c =
    let s = c.args.setup.now in
    let over : next_turn s c.loop-turn.bench ≡ None = sym c.next_entry.ensures.next ∙ c.in_default.is in
    record {
      run = λ _. sym (ended-run s (g.A.Adviser.answers c.args.adviser.now) (c.args.most - c.loop-turn.turn) (state_of c.loop-turn.lock c.loop-turn.bench c.loop-turn.waits.items) over) ∙ c.loop-turn.invariant.run;
    }

pub returns : goal.returns
returns g c = record {
  run = λ _. let over : c.args.most - c.loop-turn.turn ≡ 0 = omega arith in
      ap (λ n. ran c.args.setup.now (g.A.Adviser.answers c.args.adviser.now) n (state_of c.loop-turn.lock c.loop-turn.bench c.loop-turn.waits.items)) (sym over) ∙ c.loop-turn.invariant.run;
}
