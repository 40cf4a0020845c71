use Rattle.std.proofs.Common.{◌≡◌, ◌<◌, true, List, [], All, length, map, slice_index_or, vec_capacity, ◌≤◌, sym, ap, ◌∙◌, subst, arith, rules}
use Rattle.std.specs.Vec.{with_items}
use Rattle.std.proofs.Crossing.{crosses}
use Rattle.std.proofs.lemmas.List.{with_items_is}
use denote.Param.Send.{sendable}
use Rattle.atomic_table.proofs.shared.Shared.TheSendSync as shared
use Rattle.atomic_table.proofs.send_lease.SendLease.TheSendSync as lease
use Rattle.dir_table.specs.declared.calls.DirCall.{DirCall}
use Rattle.dir_table.specs.Numbers.{call_numbers}
use Rattle.dir_table.specs.Meanings.{Admits}
use Rattle.shfl_table.specs.declared.view.Decision.{Decision}
use Rattle.shfl_table.specs.Waits.{AsksInRounds}
use Rattle.shfl_cell.specs.Cells.{number}
use Rattle.round_log.specs.Logs.{begun, told_in}
use Rattle.call_pool.specs.Pools.{PoolPassModel, IsPassOf, AreNumbered}
use Rattle.call_pool.specs.Rounds.{with_log}
use Rattle.call_pool.proofs.Crossing.{cell_sync, queue_sync}
use Rattle.call_pool.proofs.Running.{numbered}
use Rattle.call_pool.proofs.TakersRan.{all_ready, ready_numbered, ready_logs, have_rounds, each_asked, all_passes, numbered_passes, as_many_passes, as_many_logs, as_long}
use Rattle.call_pool.proofs.run.run_pool.Given as given_here
use Rattle.call_pool.proofs.run.run_pool.Goals as goal
use Rattle.call_pool.proofs.run.run_pool.Goals.{After-take_in_threads}

abbrev P : Type 0
P = PoolPassModel DirCall

pub take_in_threads-requires-sync-P : goal.take_in_threads-requires-sync-P
take_in_threads-requires-sync-P g c κs within = search (sendable, crosses, cell_sync, queue_sync) depth 60 fits 20000

pub take_in_threads-requires-clause-passes : goal.take_in_threads-requires-clause-passes
take_in_threads-requires-clause-passes g c κs within =
    all_ready c.args.keeps c.in_ok-pool.opened.items _ (c.deref_mut.ensures.value ∙ c.in_ok-takers.ensures) (IsPassOf call_numbers Admits c.in_ok-pool.pool) c.in_ok-pool.ensures.passes

pub take_in_threads-requires-clause-numbered : goal.take_in_threads-requires-clause-numbered
take_in_threads-requires-clause-numbered g c κs within =
    ready_numbered c.args.keeps c.in_ok-pool.opened.items _ (c.deref_mut.ensures.value ∙ c.in_ok-takers.ensures) (λ (p : P). number p.cell)
    (numbered c.in_ok-pool.opened.items c.in_ok-pool.ensures.in_order)

pub take_in_threads-requires-clause-logs : goal.take_in_threads-requires-clause-logs
take_in_threads-requires-clause-logs g c κs within =
    ready_logs c.args.keeps c.in_ok-pool.opened.items _ (c.deref_mut.ensures.value ∙ c.in_ok-takers.ensures) c.args.policy.now

-- the takers behind their last call
module _ (g : given_here.Over) (c : After-take_in_threads g) where
  is_lent : c.deref_mut.result.now ≡ map (with_log c.args.keeps) c.in_ok-pool.opened.items
  is_lent = c.deref_mut.ensures.value ∙ c.in_ok-takers.ensures

  long : length c.take_in_threads.new.takers ≡ length c.in_ok-takers.takers.items
  long = c.take_in_threads.ensures.len ∙ ap length c.deref_mut.ensures.value

  again : (with_items c.in_ok-takers.takers c.take_in_threads.new.takers).items ≡ c.take_in_threads.new.takers
  again = with_items_is c.in_ok-takers.takers c.take_in_threads.new.takers (long ∙ sym c.in_ok-takers.takers.ok.0)

  opened_long : length c.in_ok-pool.opened.items ≡ length c.args.attrs.now
  opened_long = let n = c.in_ok-pool.ensures.count in let ok = c.in_ok-pool.opened.ok.0 in omega (arith, n, ok)

  as_many : length c.in_ok-takers.takers.items ≡ length c.args.attrs.now
  as_many = ap length c.in_ok-takers.ensures ∙ as_long c.args.keeps c.in_ok-pool.opened.items ∙ opened_long

  -- the passes that are taken apart from their logs
  module _ (passes : List P) (apart : passes ≡ map (λ t. t.pass) (with_items c.in_ok-takers.takers c.take_in_threads.new.takers).items) where
    theirs : passes ≡ map (λ t. t.pass) c.take_in_threads.new.takers
    theirs = apart ∙ ap (λ l. map (λ t. t.pass) l) again

    many_passes : length passes ≡ length c.args.attrs.now
    many_passes = as_many_passes c.take_in_threads.new.takers passes theirs ∙ long ∙ as_many

    own_passes : All (IsPassOf call_numbers Admits c.in_ok-pool.pool) passes
    own_passes = all_passes (IsPassOf call_numbers Admits c.in_ok-pool.pool) c.take_in_threads.new.takers passes c.take_in_threads.ensures.passes theirs

    ended_passes : All (λ p. p.taker.ended ≡ true) passes
    ended_passes = all_passes (λ (p : P). p.taker.ended ≡ true) c.take_in_threads.new.takers passes c.take_in_threads.ensures.ended theirs

    in_place : AreNumbered (λ (p : P). number p.cell) passes
    in_place = numbered_passes (λ (p : P). number p.cell) c.take_in_threads.new.takers passes c.take_in_threads.ensures.numbered theirs

pub take_apart-requires-clause-passes : goal.take_apart-requires-clause-passes
take_apart-requires-clause-passes g c =
    let d = (goal.at.take_apart-requires-clause-passes g c).After-take_in_threads in let n = as_many g d in let ok = c.in_ok-takers.takers.ok.0 in
    let empty : c.in_ok-passes.passes.items ≡ [] = search rules in
    let room : length c.args.attrs.now ≤ vec_capacity c.in_ok-passes.passes = search rules in
    (empty, omega (arith, n, ok, room))

pub take_apart-requires-clause-logs : goal.take_apart-requires-clause-logs
take_apart-requires-clause-logs g c =
    let d = (goal.at.take_apart-requires-clause-logs g c).After-take_in_threads in let n = as_many g d in let ok = c.in_ok-takers.takers.ok.0 in
    let empty : c.in_ok-logs.logs.items ≡ [] = search rules in
    let room : length c.args.attrs.now ≤ vec_capacity c.in_ok-logs.logs = search rules in
    (empty, omega (arith, n, ok, room))

pub close_in_order-dir-requires-clause-pool : goal.close_in_order-dir-requires-clause-pool
close_in_order-dir-requires-clause-pool g c = own_passes g (goal.at.close_in_order-dir-requires-clause-pool g c).After-take_in_threads _ c.take_apart.ensures.passes

pub close_in_order-dir-requires-clause-numbered : goal.close_in_order-dir-requires-clause-numbered
close_in_order-dir-requires-clause-numbered g c = in_place g (goal.at.close_in_order-dir-requires-clause-numbered g c).After-take_in_threads _ c.take_apart.ensures.passes

pub close_in_order-dir-requires-clause-ended : goal.close_in_order-dir-requires-clause-ended
close_in_order-dir-requires-clause-ended g c = ended_passes g (goal.at.close_in_order-dir-requires-clause-ended g c).After-take_in_threads _ c.take_apart.ensures.passes

pub close_in_order-dir-requires-clause-count : goal.close_in_order-dir-requires-clause-count
close_in_order-dir-requires-clause-count g c =
    let n = many_passes g (goal.at.close_in_order-dir-requires-clause-count g c).After-take_in_threads _ c.take_apart.ensures.passes in
    let ok = c.take_apart.new.passes.ok.0 in let some = c.requires.takers.0 in let all = c.in_ok-pool.ensures.cell.1 in
    (omega (arith, n, ok, some), omega (arith, n, ok, all))

pub returns-clause-workers : goal.returns-clause-workers
returns-clause-workers g c =
    let n = many_passes g (goal.at.returns-clause-workers g c).After-take_in_threads _ c.take_apart.ensures.passes in let ok = c.take_apart.new.passes.ok.0 in
    subst (λ m. All (λ e. e.worker < m) c.close_in_order-dir.result.1.items) (ok ∙ n) c.close_in_order-dir.ensures.workers

pub returns-clause-asked : goal.returns-clause-asked
returns-clause-asked g c =
    let d = (goal.at.returns-clause-asked g c).After-take_in_threads in let opened = c.in_ok-pool.ensures in let before = c.in_ok-pool.opened.items in
    let ran = c.take_in_threads.ensures in let apart = c.take_apart.ensures.passes in let behind = c.take_apart.new.passes.items in
    let logs = c.take_apart.new.logs.items in let logs_are = c.take_apart.ensures.logs ∙ ap (λ l. map (λ t. t.log) l) (again g d) in
    record {
      left = record {
        pool = c.in_ok-pool.pool;
        passes = behind;
        calls_are = opened.calls;
        opening_is = opened.cell.0;
        rules = opened.rules;
        attributes = opened.attr_words;
        count = many_passes g d _ apart;
        own = own_passes g d _ apart;
        numbered = in_place g d _ apart;
        ended = ended_passes g d _ apart;
        taken = c.close_in_order-dir.ensures.taken;
        run = c.close_in_order-dir.ensures.run;
        seen = c.close_in_order-dir.ensures.seen;
      };
      many = as_many_logs c.take_in_threads.new.takers logs logs_are ∙ sym (as_many_passes c.take_in_threads.new.takers behind (theirs g d _ apart));
      asked = λ k p log lt.
          let n = opened_long g d in let within : k < length before = omega (arith, lt, n) in
          let told = told_in (begun c.args.keeps) in let told' = told_in (slice_index_or logs k log) in
          let asked' = (slice_index_or behind k p).cell.decisions in
          subst (λ a. AsksInRounds a [] asked' told told') (opened.attrs k p within)
          (subst (λ (l : List Decision). AsksInRounds (slice_index_or before k p).cell.attr l asked' told told') (opened.unused k p within).3
          (each_asked c.args.keeps before _ (is_lent g d) _ c.take_in_threads.new.takers behind logs ran.len ran.asked (theirs g d _ apart) logs_are k p log within));
    }

pub returns-clause-passes : goal.returns-clause-passes
returns-clause-passes g c = (returns-clause-asked g c).left

pub returns-clause-rounds : goal.returns-clause-rounds
returns-clause-rounds g c =
    let d = (goal.at.returns-clause-rounds g c).After-take_in_threads in let ran = c.take_in_threads.ensures in
    have_rounds c.args.keeps c.in_ok-pool.opened.items _ (is_lent g d) c.args.policy.now _ _ c.take_in_threads.new.takers _
    (opened_long g d) ran.len ran.logs ran.asked (c.take_apart.ensures.logs ∙ ap (λ l. map (λ t. t.log) l) (again g d))
