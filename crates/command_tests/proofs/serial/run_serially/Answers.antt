use Rattle.std.proofs.Common.{rules, ◌≡◌, ℕ, List, map, sym, ap, subst}
use Rattle.std.specs.List.{AllByRecursion}
use Rattle.dir_table.specs.Numbers.{state_numbers}
use Rattle.trace_text.specs.Report.{done_of}
use Rattle.trace_text.specs.Histories.{beginning}
use Rattle.syncord_replay.specs.Serial.{MayDo}
use Rattle.syncord_replay.proofs.Within.{may_all, is_history}
use Rattle.command_tests.proofs.serial.run_serially.Goals as goal

pub take_calls-requires-clause-admitted : goal.take_calls-requires-clause-admitted
take_calls-requires-clause-admitted c =
    let t = c.args.trace.now in
    let start : state_numbers c.in_ok-dir.dir ≡ state_numbers (beginning t) = ap state_numbers c.in_ok-dir.ensures in
    rw c.as_slice-calls.ensures.value
    (subst (λ (s : List ℕ). AllByRecursion (λ d. MayDo s d.act) t.calls.items) (sym start) (may_all (state_numbers (beginning t)) _ _ t.calls.items c.requires.within.calls))

pub returns : goal.returns
returns c =
    let t = c.args.trace.now in
    let start : state_numbers c.in_ok-dir.dir ≡ state_numbers (beginning t) = ap state_numbers c.in_ok-dir.ensures in
    record {
      history = rw c.dir.view_is (is_history t (map done_of c.in_ok-history.history.items) _ (rw (start, c.as_slice-calls.ensures.value) at c.in_ok-history.ensures));
      ran = tt;
      versions = search rules;
    }
